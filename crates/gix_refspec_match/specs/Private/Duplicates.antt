-- Elements of a list that equal an earlier one, and how they are found. Only private functions cite this.
use Rattle.std.specs.Prelude.{◌≡◌, ◌≢◌, ◌⊎◌, ◌↔◌, ◌<◌, ◌≤◌, ◌-◌, ◌/◌, ◌%◌, ◌^◌, ℕ, Bool, List, [], length, nat_eq}
use Rattle.std.specs.Prelude.{slice_index_or, Some}
use Rattle.std.specs.Int.{bit_at}
use Rattle.std.specs.List.{All, AllPairs, Contains, slice_get}
use Rattle.std.specs.Ordering.{nat_cmp, ordering_then}
use Rattle.std.specs.declared.cmp.Ordering.{Ordering}
use Rattle.std.specs.declared.cmp.Ordering.TheVariants.{Equal}
use Rattle.gix_refspec_text.specs.Texts.Words.{BeginsWith}
use Rattle.gix_refspec_match.specs.declared.bloom.Bloom.{Bloom}
use Rattle.gix_refspec_match.specs.declared.duplicates.Placed.{Placed}
use Rattle.gix_refspec_match.specs.Matching.Redundant.{IsRedundant}
use Rattle.gix_refspec_match.specs.Private.Bloom.{HasNumber, IsWhole}
use Rattle.gix_refspec_match.specs.Private.Kept.{IsFlagged}

-- the elements at two indexes are equal
abbrev pub AreEqualAt : {T : Type 0} → (T → T → Ordering) → List T → ℕ → ℕ → Type 0
AreEqualAt {T} order xs j k = (d : T) → order (slice_index_or xs j d) (slice_index_or xs k d) ≡ Equal

-- there is an element at an index, and it equals an earlier one
abbrev pub IsDuplicate : {T : Type 0} → (T → T → Ordering) → List T → ℕ → Type 0
IsDuplicate order xs k = (k < length xs) × ((j : ℕ) × (j < k) × AreEqualAt order xs j k)

-- exactly the duplicates are flagged
abbrev pub FlagsDuplicates : {T : Type 0} → (T → T → Ordering) → List T → List Bool → Type 0
FlagsDuplicates order xs flags = (k : ℕ) → IsFlagged flags k ↔ IsDuplicate order xs k

-- the hashes at two indexes are the same
abbrev pub AreSameAt : List ℕ → ℕ → ℕ → Type 0
AreSameAt hashes j k = slice_index_or hashes j 0 ≡ slice_index_or hashes k 0

-- two keys have the same upper bits
abbrev pub HaveSameUpper : ℕ → ℕ → ℕ → Type 0
HaveSameUpper bits a b = a / 2 ^ bits ≡ b / 2 ^ bits

-- upper bits that two keys have are in the filter
pub record HasShared (bits : ℕ) (keys : List ℕ) (b : Bloom) : Type 0 where
  pub whole : IsWhole b
  pub all : AllPairs (λ j k. HaveSameUpper bits j k → HasNumber b (k / 2 ^ bits)) keys

-- whether the upper bits of a key are in a filter
abbrev pub is_shared : Bloom → ℕ → ℕ → Bool
is_shared b bits key =
    nat_eq (bit_at (slice_index_or b.words.items (key / 2 ^ bits % 2 ^ b.bits) 0) (key / 2 ^ bits / 2 ^ b.bits % 64)) 1

-- one of some keys or elements has the index
abbrev pub HasIndex : {X : Type 0} → (X → ℕ) → List X → ℕ → Type 0
HasIndex {X} index xs k = (x : X) × Contains xs x × (index x ≡ k)

-- no two have the same index
abbrev pub AreApart : {X : Type 0} → (X → ℕ) → List X → Type 0
AreApart index xs = AllPairs (λ x y. index x ≢ index y) xs

-- the one at position `at` has the index k, and E holds of the one before it and it
pub record IsSecond {X : Type 0} (E : X → X → Type 0) (index : X → ℕ) (xs : List X) (at k : ℕ) : Type 0 where
  pub later : 0 < at
  pub inside : at < length xs
  pub same : (d : X) → E (slice_index_or xs (at - 1) d) (slice_index_or xs at d)
  pub here : (d : X) → index (slice_index_or xs at d) ≡ k

-- the index in a key: what its lower bits say
abbrev pub index_in : ℕ → ℕ → ℕ
index_in bits key = key % 2 ^ bits

-- the key has the index of a hash, and the upper bits of that hash
pub record IsKey (hashes : List ℕ) (bits key : ℕ) : Type 0 where
  pub inside : key % 2 ^ bits < length hashes
  pub upper : key / 2 ^ bits ≡ slice_index_or hashes (key % 2 ^ bits) 0 / 2 ^ bits

-- keys of hashes, of all those at least that are there twice
pub record AreKeysOf (hashes : List ℕ) (bits : ℕ) (keys : List ℕ) : Type 0 where
  pub each : All (IsKey hashes bits) keys
  pub twice : (j k : ℕ) → j < k → k < length hashes → AreSameAt hashes j k → HasIndex (index_in bits) keys j
      × HasIndex (index_in bits) keys k

-- keys of some elements, of which that of a duplicate has the upper bits of the one before it
pub record FindDuplicates {T : Type 0} (order : T → T → Ordering) (xs : List T) (bits : ℕ) (keys : List ℕ) :
    Type 0 where
  pub inside : All (λ key. key % 2 ^ bits < length xs) keys
  pub finds : (k : ℕ) → IsDuplicate order xs k → (at : ℕ) × IsSecond (HaveSameUpper bits) (index_in bits) keys at k

-- each index below len is at its own
pub record AreIndexesBelow (len : ℕ) (indexes : List ℕ) : Type 0 where
  pub size : length indexes ≡ len
  pub at : (k : ℕ) → slice_index_or indexes k k ≡ k

-- at the index of each key whose upper bits are those of the one before it there is an earlier index, and nowhere a
-- later one
pub record AreFirsts (len bits : ℕ) (keys firsts : List ℕ) : Type 0 where
  pub size : (firsts ≡ []) ⊎ (length firsts ≡ len)
  pub back : (k : ℕ) → slice_index_or firsts k k ≤ k
  pub found : (at k : ℕ) → IsSecond (HaveSameUpper bits) (index_in bits) keys at k → slice_index_or firsts k k < k

-- two elements are equal
abbrev pub HaveEqualElements : {T : Type 0} → (T → T → Ordering) → Placed T → Placed T → Type 0
HaveEqualElements order p q = order p.element.now q.element.now ≡ Equal

-- the order of elements, and of their indexes where they are equal
abbrev pub placed_order : {T : Type 0} → (T → T → Ordering) → Placed T → Placed T → Ordering
placed_order order p q = ordering_then (order p.element.now q.element.now) (nat_cmp p.index q.index)

-- the element is at its index
pub record IsPlaced {T : Type 0} (xs : List T) (p : Placed T) : Type 0 where
  pub inside : p.index < length xs
  pub is : (d : T) → p.element.now ≡ slice_index_or xs p.index d

-- all the elements, each with its index
pub record ArePlaced {T : Type 0} (xs : List T) (ps : List (Placed T)) : Type 0 where
  pub each : All (IsPlaced xs) ps
  pub every : (k : ℕ) → k < length xs → HasIndex (λ p. p.index) ps k
  pub apart : AreApart (λ p. p.index) ps

-- exactly the redundant texts are flagged
abbrev pub FlagsRedundant : List (List ℕ) → List Bool → Type 0
FlagsRedundant texts flags = (k : ℕ) → IsFlagged flags k ↔ IsRedundant texts k

-- the text begins with one of the texts that isn't redundant
pub record BeginsWithNeeded (texts : List (List ℕ)) (text : List ℕ) : Type 0 where
  pub index : ℕ
  pub other : List ℕ
  pub there : slice_get texts index ≡ Some other
  pub needed : ¬ (IsRedundant texts index)
  pub begins : BeginsWith other text
