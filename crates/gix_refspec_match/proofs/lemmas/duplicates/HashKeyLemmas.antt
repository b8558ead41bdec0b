-- Keys of the upper bits of a hash and an index, and what their order says of hashes that are there twice.
use Rattle.gix_refspec_match.proofs.Common.{List, refl, ◌≡◌, ℕ, true, Equal, arith, inl, inr, ◌≢◌, ap, ◌<◌, length, map}
use Rattle.gix_refspec_match.proofs.Common.{◌+◌, get_or, ◌≤◌, ◌*◌, ◌%◌, ◌^◌, Bool, Ordering, ◌/◌, not, bit_or}
use Rattle.gix_refspec_match.proofs.Common.{mod-eq_of_lt, some_element, div-mul-le_self, shr_mono, AllPairs-filter}
use Rattle.gix_refspec_match.proofs.Common.{eq-eqb, length-map, get_or-map, All-contains, Contains-get_or, All-filter}
use Rattle.gix_refspec_match.proofs.Common.{Contains-append_cases, filter_passes, All-permutation, Contains-permutation}
use Rattle.gix_refspec_match.proofs.Common.{IsNonDecreasingBy-from_sort, IsPermutation-filter_both, div-mul-add}
use Rattle.gix_refspec_match.proofs.Common.{mod-mul-add, or_shifted, shr_split, IsPermutation, IsSorted, Contains}
use Rattle.gix_refspec_match.proofs.Common.{filter, nat_cmp, HasNumber, HaveSameUpper, index_in, AreApart, AreKeysOf}
use Rattle.gix_refspec_match.proofs.Common.{FindDuplicates, HasIndex, HasShared, IsKey, is_shared, Rises, Bloom, []}
use Rattle.gix_refspec_match.proofs.Common.{◌⊎◌, ◌-◌, set, elements, get_or-set_same, length-set, get_or-set_other}
use Rattle.gix_refspec_match.proofs.Common.{get_or_read, AreFirsts, AreIndexesBelow, IsSecond}
use Rattle.gix_refspec_match.proofs.lemmas.duplicates.OrderedLemmas.{AreNumbered, apart_permuted, numbered_apart}
use Rattle.gix_refspec_match.proofs.lemmas.duplicates.OrderedLemmas.{second_found}
use Rattle.std.specs.List.{All}

pub packed : (hash index bits key : ℕ) → hash < 18446744073709551616 → index < 2 ^ bits
    → key ≡ bit_or (hash / 2 ^ bits * 2 ^ bits % 18446744073709551616) index
    → (key / 2 ^ bits ≡ hash / 2 ^ bits) × (key % 2 ^ bits ≡ index)
packed hash index bits key fits below is = grind (
  arith,
  fits,
  below,
  is,
  div-mul-le_self,
  mod-eq_of_lt,
  or_shifted,
  div-mul-add,
  mod-mul-add,
)

pub same_upper : (a b bits : ℕ) → HaveSameUpper bits a b → a + b % 2 ^ bits ≡ b + a % 2 ^ bits
same_upper a b bits same = let up : a / 2 ^ bits * 2 ^ bits ≡ b / 2 ^ bits * 2 ^ bits =
    ap (λ x. x * 2 ^ bits) same in omega (arith, shr_split a bits, shr_split b bits, up)

pub contains_filter : {X : Type 0} (test : X → Bool) (xs : List X) (x : X) → Contains xs x → test x ≡ true
    → Contains (filter test xs) x
contains_filter {X} test xs x has passes =
    let other : X → Bool = λ y. not (test y) in
    let both = Contains-permutation xs _ x (IsPermutation-filter_both test other (λ y. refl) xs) has in
    elim (Contains-append_cases _ _ x both) [
      | inl kept ↦ kept
      | inr out ↦
          absurd (cc (passes, All-contains (λ y. other y ≡ true) _ x (filter_passes other xs) out))
    ]

-- of the keys of all elements, those with upper bits that others may have, sorted
module _ {hashes : List ℕ} {bits : ℕ} {keys : List ℕ} {n : ℕ} {shared : Bloom} {ys : List ℕ} (past : length hashes ≤ n)
    (are : AreNumbered (index_in bits) (IsKey hashes bits) keys n) (has : HasShared bits keys shared)
    (moved : IsPermutation (filter (is_shared shared bits) keys) ys) where
  stays : (k : ℕ) → k < n → HasNumber shared (get_or keys k 0 / 2 ^ bits) → HasIndex (index_in bits) ys k
  stays k below number = (
    get_or keys k 0,
    Contains-permutation _ ys _ moved
        (contains_filter (is_shared shared bits) keys _ (Contains-get_or keys k 0 (omega (arith, are.size)))
        (eq-eqb _ 1 number)),
    are.at k below 0,
  )

  pub sorted_keys : AreKeysOf hashes bits ys
  sorted_keys = record {
    each = All-permutation (IsKey hashes bits) _ ys moved (All-filter _ (IsKey hashes bits) keys are.each);
    twice = λ j k before below same.
        let last : k < n = omega arith in
        let inside : k < length keys = omega (arith, are.size) in
        let j_key = are.each j 0 (omega arith) in
        let k_key = are.each k 0 inside in
        let upper : HaveSameUpper bits (get_or keys j 0) (get_or keys k 0) =
        cc (j_key.upper, k_key.upper, are.at j (omega arith) 0, are.at k last 0, same) in
        let number = has.all j k 0 before inside upper in
        (stays j (omega arith) (rw upper number), stays k last number);
  }

  pub sorted_keys_rise : IsSorted nat_cmp ys → Rises ys
  sorted_keys_rise sorted i j d before below =
      let rise : get_or ys i d ≤ get_or ys j d = IsNonDecreasingBy-from_sort (λ n. n) ys sorted i j d
      (omega arith) below in
      let apart : AreApart (index_in bits) (filter (is_shared shared bits) keys) =
      AllPairs-filter (λ x y. index_in bits x ≢ index_in bits y) _ keys (numbered_apart are) in
      grind (arith, rise, apart_permuted (index_in bits) _ ys moved apart i j d before below)

-- where equal elements have the same hash, the key of a duplicate has the upper bits of the one before it
pub duplicates_from_keys : {T : Type 0} (order : T → T → Ordering) (hash : T → ℕ) (xs : List T) (bits : ℕ)
    (keys : List ℕ) → ((x y : T) → order x y ≡ Equal → hash x ≡ hash y) → AreKeysOf (map hash xs) bits keys → Rises keys
    → FindDuplicates order xs bits keys
duplicates_from_keys {T} order hash xs bits keys alike are rises = record {
  inside = λ k d below. omega (arith, (are.each k d below).inside, length-map xs hash);
  finds = λ k (below, (j, before, equal)).
      let d = some_element xs k below in
      let hashes : get_or (map hash xs) j 0 ≡ get_or (map hash xs) k 0 =
      rw (get_or-map hash xs j d 0 (omega arith), get_or-map hash xs k d 0 below) (alike _ _ (equal d)) in
      let ((a, has_a, is_a), (b, has_b, is_b)) = are.twice j k before (omega (arith, length-map xs hash)) hashes in
      let a_key = All-contains (IsKey (map hash xs) bits) keys a are.each has_a in
      let b_key = All-contains (IsKey (map hash xs) bits) keys b are.each has_b in
      let same : HaveSameUpper bits a b = cc (a_key.upper, b_key.upper) in
      rw (← is_b) (second_found (index_in bits) (λ x y. x ≤ y) (HaveSameUpper bits) keys a b
      (λ i j d le inside. grind (arith, rises i j d)) has_a has_b
      (λ le. omega (arith, same_upper a b bits same, is_a, is_b))
      (λ m le more. omega (arith, shr_mono bits le, shr_mono bits more, same)));
}

-- the first of the current run has the upper bits of the last key, and the firsts of the runs so far are written
pub record AreFirstsBelow (len bits : ℕ) (keys firsts : List ℕ) (first at : ℕ) : Type 0 where
  pub before : first < at
  pub same : HaveSameUpper bits (get_or keys first 0) (get_or keys (at - 1) 0)
  pub size : (firsts ≡ []) ⊎ (length firsts ≡ len)
  pub back : (k : ℕ) → get_or firsts k k ≤ k
  pub found : (i : ℕ) → i < at → (k : ℕ) → IsSecond (HaveSameUpper bits) (index_in bits) keys i k
      → get_or firsts k k < k

module _ {len bits : ℕ} {keys firsts : List ℕ} {first at : ℕ} (are : AreFirstsBelow len bits keys firsts first at) where
  -- the key at `at` begins a run
  pub run_begins : ¬ (HaveSameUpper bits (get_or keys first 0) (get_or keys at 0))
      → AreFirstsBelow len bits keys firsts at (at + 1)
  run_begins other = record {
    before = omega arith;
    same = grind arith;
    size = are.size;
    back = are.back;
    found =
        λ i below k second. grind (arith, are.found i, are.same, other, second.same 0);
  }

  -- all are first in their runs as long as nothing is written
  pub all_first : {filled : List ℕ} → firsts ≡ [] → AreIndexesBelow len filled
      → AreFirstsBelow len bits keys filled first at
  all_first empty filled =
      record {
        before = are.before;
        same = are.same;
        size = inr filled.size;
        back = λ k. omega (arith, filled.at k);
        found = λ i below k second. grind (arith, elements, are.found i below k second, empty);
      }

  -- the key at `at` belongs to the run
  pub run_goes_on : Rises keys → All (λ key. key % 2 ^ bits < len) keys → length firsts ≡ len → at < length keys
      → HaveSameUpper bits (get_or keys first 0) (get_or keys at 0)
      → AreFirstsBelow len bits keys (set firsts (get_or keys at 0 % 2 ^ bits) (get_or keys first 0 % 2 ^ bits)) first
      (at + 1)
  run_goes_on rises inside full below same =
      let j = get_or keys first 0 % 2 ^ bits in
      let k = get_or keys at 0 % 2 ^ bits in
      let less : j < k = omega (arith, rises first at 0 are.before below, same_upper _ _ bits same) in
      let here : (d : ℕ) → get_or (set firsts k j) k d ≡ j = λ d. get_or-set_same firsts k j d
      (omega (arith, inside at 0 below, full)) in
      let others : (i d : ℕ) → i ≢ k → get_or (set firsts k j) i d ≡ get_or firsts i d =
      λ i d other. get_or-set_other firsts k i j d other in
      record {
        before = omega (arith, are.before);
        same = grind (arith, same);
        size = inr (omega (arith, length-set firsts k j, full));
        back = λ i. grind (arith, here i, others i i, are.back i, less);
        found = λ i before m second. grind (arith, here m, others m m, are.found i, second.here 0, less);
      }

pub first_below : {len bits : ℕ} {keys firsts : List ℕ} → AreFirsts len bits keys firsts → (i j : ℕ) → i < length firsts
    → j ≡ get_or firsts i j → j ≢ i → (j < i) × (i < len)
first_below {len} {bits} {keys} {firsts} are i j below read other =
    let value : j ≡ get_or firsts i i = get_or_read firsts i j below read i in (
      omega (arith, are.back i, value, other),
      grind (arith, are.size),
    )
