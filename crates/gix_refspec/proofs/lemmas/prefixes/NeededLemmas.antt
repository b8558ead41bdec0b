-- Each ref prefix of a list that is sent is needed: it alone begins the name of a ref that some spec takes.
use Rattle.gix_refspec.proofs.Common.{Any as AnyAt, ◌≡◌, ◌≢◌, ◌⊎◌, inl, inr, ℕ, zero, suc, List, [], ◌∷◌, ◌++◌, map}
use Rattle.gix_refspec.proofs.Common.{None, Some, Option, refl, sym, ap, ◌∙◌, subst, arith, length, ◌<◌, ◌+◌, slice_get}
use Rattle.gix_refspec.proofs.Common.{AllByRecursion, bstring_bytes, append-nil, BeginsWith, IsPositive, Negative}
use Rattle.gix_refspec.proofs.Common.{Reading, Ref, Takes, SideKind, pattern, full_name, object, partial, HasKind}
use Rattle.gix_refspec.proofs.Common.{candidates, IsCandidate, Matches, IsAsked, IsJoinedFrom, IsMadeFrom}
use Rattle.gix_refspec.proofs.Common.{AreForwardEnds, Operation, Fetch, letter, Lists, ListsAs, ListsSide, ListsGroup}
use Rattle.gix_refspec.proofs.Common.{AreFetches, TakesItem, one_kind, side_on_remote, AnyOf as Any, Any-weaker}
use Rattle.gix_refspec.proofs.Common.{some_at, some_of, made_any, same_Some, slice_get_within, length-map}
use Rattle.gix_refspec.specs.Laws.Items.{IsNeededFor, NeedsEach}
use Rattle.gix_refspec.specs.Matching.Asked.{IfNotAll, ListsBeside, Requests}
use Rattle.gix_refspec.specs.declared.match_group.prefixes.RefPrefixes.{RefPrefixes}
use Rattle.gix_refspec.specs.declared.match_group.prefixes.RefPrefixes.TheVariants.{Nothing, Listed, All}
use Rattle.gix_refspec_match.proofs.lemmas.duplicates.RedundantLemmas.{needed_apart}
use Rattle.gix_refspec_match.proofs.lemmas.keep.PartLemmas.{ref_named}
use Rattle.gix_refspec_match.proofs.lemmas.lists.SomeLemmas.{Any-cases}
use Rattle.gix_refspec_match.specs.Matching.Redundant.{AreNeeded, IsNeededAt, NoneBeginsAnother}
use Rattle.gix_refspec_text.proofs.lemmas.hits.CandidateLemmas.{first_of_one, taken_by_first}
use Rattle.std.proofs.lemmas.List.Elements.{All-from_recursion}

-- ---- at most one entry begins a name

-- of two texts that begin a name, one begins the other
comparable : (p q n : List ℕ) → BeginsWith p n → BeginsWith q n → BeginsWith p q ⊎ BeginsWith q p
comparable [] q n one other = inl (record { after = q; here = refl })
comparable (c ∷ p) [] n one other = inr (record { after = c ∷ p; here = refl })
comparable (c ∷ p) (d ∷ q) [] one other = absurd (let here = one.here in cc)
comparable (c ∷ p) (d ∷ q) (b ∷ n) one other =
    let first : b ∷ n ≡ c ∷ (p ++ one.after) = one.here in
    let second : b ∷ n ≡ d ∷ (q ++ other.after) = other.here in
    let heads : d ≡ c = cc in
    let left : BeginsWith p n = record { after = one.after; here = cc } in
    let right : BeginsWith q n = record { after = other.after; here = cc } in
    elim (comparable p q n left right) [
      | inl in_q ↦ inl (record { after = in_q.after; here = λ i. heads i ∷ in_q.here i })
      | inr in_p ↦ inr (record { after = in_p.after; here = λ i. sym heads i ∷ in_p.here i })
    ]

all_there : (P : List ℕ → Type 0) (xs : List (List ℕ)) (k : ℕ) (x : List ℕ) → AllByRecursion P xs
    → slice_get xs k ≡ Some x → P x
all_there P [] k x all is = absurd (cc)
all_there P (y ∷ xs) zero x all is = subst P (same_Some y x is) all.0
all_there P (y ∷ xs) (suc k) x all is = all_there P xs k x all.1 is

-- two texts that begin a name aren't apart
not_apart : (p q n : List ℕ) → ¬ (BeginsWith p q) × ¬ (BeginsWith q p) → BeginsWith p n → BeginsWith q n → ⊥
not_apart p q n none one other = elim (comparable p q n one other) [ inl in_q ↦ none.0 in_q | inr in_p ↦ none.1 in_p ]

-- two entries that begin a name are one
one_begins : (list : List (List ℕ)) (j k : ℕ) (p q n : List ℕ) → NoneBeginsAnother list → slice_get list j ≡ Some p
    → slice_get list k ≡ Some q → BeginsWith p n → BeginsWith q n → j ≡ k
one_begins [] j k p q n apart at_j at_k one other = absurd (cc)
one_begins (x ∷ list) zero zero p q n apart at_j at_k one other = refl
one_begins (x ∷ list) zero (suc k) p q n apart at_j at_k one other =
    absurd (not_apart x q n (all_there _ list k q apart.0 at_k)
    (subst (λ (y : List ℕ). BeginsWith y n) (sym (same_Some x p at_j)) one) other)
one_begins (x ∷ list) (suc j) zero p q n apart at_j at_k one other =
    absurd (not_apart x p n (all_there _ list j p apart.0 at_j)
    (subst (λ (y : List ℕ). BeginsWith y n) (sym (same_Some x q at_k)) other) one)
one_begins (x ∷ list) (suc j) (suc k) p q n apart at_j at_k one other =
    ap suc (one_begins list j k p q n apart.1 at_j at_k one other)

-- ---- which spec an entry comes from

joined_any : (k : ℕ) (g : List Reading) (whole : List (List ℕ)) (P : List ℕ → Type 0)
    → IsJoinedFrom (λ j r names. Lists r names) k g whole → Any P whole
    → Any (λ r. (names : List (List ℕ)) × Lists r names × Any P names) g
joined_any k [] whole P none any = absurd (subst (Any P) none any)
joined_any k (r ∷ g) whole P (made, rest, lists, more, all) any =
    elim (Any-cases P made rest (subst (Any P) all any)) [
      | inl here ↦ inl (made, lists, here)
      | inr later ↦ inr (joined_any (k + 1) g rest P more later)
    ]

entry_there : (whole list : List (List ℕ)) (P : List ℕ → Type 0) → AreNeeded whole list → Any P list → Any P whole
entry_there whole list P are any = Any-weaker _ P (λ x (j, y, stays, holds). subst P stays.0 holds) whole
    (made_any (IsNeededAt whole) P 0 whole list are.are any)

-- ---- a ref that is taken, and whose name begins with the entry

-- a ref that the reading takes, if there is no other one, begins with p
record TakesBehind (p : List ℕ) (r : Reading) : Type 0 where
  name : List ℕ
  begins : BeginsWith p name
  takes : TakesItem AreForwardEnds (Takes (ref_named name ∷ [])) (ref_named name) r

module _ (r : Reading) (x : List ℕ) (kind : SideKind) (fetch : r.operation ≡ Fetch) (asked : IsAsked r x)
    (of : HasKind x kind) (no_object : (id : List ℕ) → ¬ (HasKind x (object id))) where
  source : r.source ≡ Some x
  source = sym (ap (λ (op : Operation). side_on_remote op r.source r.destination) fetch) ∙ asked.side

  are_ends : AreForwardEnds r (record { near = x; far = r.destination })
  are_ends = record { positive = asked.positive; near = source; far = refl; no_object = no_object }

  takes_behind : (p n : List ℕ) (word : Option (List ℕ)) → BeginsWith p n
      → Takes (ref_named n ∷ []) x (ref_named n) word
      → TakesBehind p r
  takes_behind p n word begins takes = record {
    name = n;
    begins = begins;
    takes = record {
      ends = record { near = x; far = r.destination };
      has = are_ends;
      word = word;
      takes = takes;
    };
  }

only_one : (p q : List ℕ) → Any (λ x. x ≡ p) (q ∷ []) → q ≡ p
only_one p q (inl is) = is
only_one p q (inr none) = absurd none

candidate_there : (n p : List ℕ) (names : List (List ℕ)) → Any (λ x. x ≡ p) names → (earlier : List (List ℕ))
    × (later : List (List ℕ)) × (names ≡ earlier ++ (p ∷ later))
candidate_there n p [] any = absurd any
candidate_there n p (q ∷ names) (inl is) = ([], names, λ i. is i ∷ names)
candidate_there n p (q ∷ names) (inr any) =
    let (earlier, later, here) = candidate_there n p names any in (q ∷ earlier, later, λ i. q ∷ here i)

kind_takes : (r : Reading) (x : List ℕ) (kind : SideKind) (names : List (List ℕ)) (p : List ℕ) → r.operation ≡ Fetch
    → IsAsked r x → HasKind x kind → ListsAs kind names → Any (λ q. q ≡ p) names → TakesBehind p r
kind_takes r x (pattern before after) names p fetch asked of (safe, one) any =
    let is : before ≡ p = only_one p before (subst (Any (λ q. q ≡ p)) one any) in
    let n = before ++ (letter ∷ after) in
    takes_behind r x (pattern before after) fetch asked of
    (λ id object_is. absurd (let same = one_kind x (pattern before after) (object id) of object_is in cc)) p n
    (Some (letter ∷ [])) (subst (λ (q : List ℕ). BeginsWith q n) is (record { after = letter ∷ after; here = refl }))
    (record {
      matches = record { kind = pattern before after; of = of; is = refl };
      first = λ m partial_is. absurd (let same = one_kind x (pattern before after) (partial m) of partial_is in cc);
    })
kind_takes r x (full_name m) names p fetch asked of one any =
    let is : m ≡ p = only_one p m (subst (Any (λ q. q ≡ p)) one any) in
    takes_behind r x (full_name m) fetch asked of
    (λ id object_is. absurd (let same = one_kind x (full_name m) (object id) of object_is in cc)) p m None
    (subst (λ (q : List ℕ). BeginsWith q m) is (record { after = []; here = sym (append-nil m) }))
    (record {
      matches = record { kind = full_name m; of = of; is = (refl, refl) };
      first = λ n partial_is. absurd (let same = one_kind x (full_name m) (partial n) of partial_is in cc);
    })
kind_takes r x (object id) names p fetch asked of none any = absurd (subst (Any (λ q. q ≡ p)) none any)
kind_takes r x (partial m) names p fetch asked of are any =
    let (earlier, later, here) = candidate_there m p (candidates m) (subst (Any (λ q. q ≡ p)) are any) in
    let own : HasKind x (partial x) = subst (λ (y : List ℕ). HasKind x (partial y)) of.0 of in
    let first = first_of_one x (ref_named p) (record {
      earlier = earlier;
      later = later;
      here = ap candidates (sym of.0) ∙ here;
    }) in
    takes_behind r x (partial m) fetch asked of
    (λ id object_is. absurd (let same = one_kind x (partial m) (object id) of object_is in cc)) p p None
    (record { after = []; here = sym (append-nil p) })
    (taken_by_first (ref_named p ∷ []) x (ref_named p) own first)

list_takes : (r : Reading) (names : List (List ℕ)) (p : List ℕ) → r.operation ≡ Fetch → Lists r names
    → Any (λ q. q ≡ p) names → TakesBehind p r
list_takes r names p fetch (inl (negative, none)) any = absurd (subst (Any (λ q. q ≡ p)) none any)
list_takes r names p fetch (inr (x, asked, lists)) any = kind_takes r x lists.kind names p fetch asked lists.of lists.is
    any

-- ---- each entry is needed

both_any : (P Q : Reading → Type 0) (g : List Reading) → AllByRecursion P g → Any Q g → Any (λ r. P r × Q r) g
both_any P Q [] all any = any
both_any P Q (r ∷ g) all (inl here) = inl (all.0, here)
both_any P Q (r ∷ g) all (inr later) = inr (both_any P Q g all.1 later)

entry_any : (list : List (List ℕ)) (k : ℕ) (p : List ℕ) → slice_get list k ≡ Some p → Any (λ q. q ≡ p) list
entry_any [] k p is = absurd (cc)
entry_any (x ∷ list) zero p is = inl (same_Some x p is)
entry_any (x ∷ list) (suc k) p is = inr (entry_any list k p is)

entry_at : (list : List (List ℕ)) (k : ℕ) → k < length list → (p : List ℕ) × (slice_get list k ≡ Some p)
entry_at [] k below = absurd (omega arith)
entry_at (x ∷ list) zero below = (x, refl)
entry_at (x ∷ list) (suc k) below = entry_at list k (omega arith)

needs_each : (g : List Reading) (list : List (List ℕ)) → ListsBeside [] g list → NeedsEach list g
needs_each g list (whole, lists, are) fetches k below =
    let (p, is) = entry_at list k below in
    let from = joined_any 0 g whole (λ q. q ≡ p) lists
    (entry_there whole list (λ q. q ≡ p) are (entry_any list k p is)) in
    let (i, r, inside, here, (fetch, (names, told, any))) =
    some_at _ g (both_any (λ r. r.operation ≡ Fetch)
    (λ r. (names : List (List ℕ)) × Lists r names × Any (λ q. q ≡ p) names) g fetches from) in
    let taken = list_takes r names p fetch told any in
    record {
      ref = ref_named taken.name;
      taken = (i, r, inside, here, taken.takes);
      alone = λ j q at. (
        (λ begins. one_begins list j k q p taken.name (needed_apart whole list are) at is begins taken.begins),
        (λ same. subst (λ (y : List ℕ). BeginsWith y taken.name)
            (same_Some p q (sym is ∙ ap (slice_get list) (sym same) ∙ at)) taken.begins),
      );
    }

pub request_needed : (g : List Reading) (asked : RefPrefixes) → Requests g asked
    → IfNotAll asked (λ list. NeedsEach list g)
request_needed g Nothing beside = needs_each g [] beside
request_needed g (Listed list) is = needs_each g (map bstring_bytes list.items) is.0
request_needed g All is = tt
