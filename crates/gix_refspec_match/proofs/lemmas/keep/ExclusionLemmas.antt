-- What negative specs exclude.
use Rattle.gix_refspec_match.proofs.Common.{List, [], ◌∷◌, Some, ◌≡◌, ℕ, ◌++◌, Option, sym, ◌∙◌, arith, inl, inr}
use Rattle.gix_refspec_match.proofs.Common.{is_some, length, ◌⊎◌, ◌↔◌, MatchOption, IsTrue, Bool, cond, bytes_eq}
use Rattle.gix_refspec_match.proofs.Common.{IsSome, common_steps, Any-push, cases_Bool, gets, bytes_decides}
use Rattle.gix_refspec_match.proofs.Common.{accepted_few, Lacks-from_absent, IsAccepted, star, Lacks, the_name}
use Rattle.gix_refspec_match.proofs.Common.{by_pattern, Fits, Negative, Reading, IsExcludedBy, IsExcluded, ExcludeName}
use Rattle.gix_refspec_match.proofs.Common.{AreExclusionsAt, ExcludeNameAt, Exclusions}
use Rattle.std.proofs.Common.{Any}
use Rattle.gix_refspec_text.proofs.lemmas.lists.LacksLemmas.{Lacks-here, first_once}

pub name_excludes : (r : Reading) (x : List ℕ) → r.mode ≡ Negative → r.source ≡ Some x → Lacks star x → (n : List ℕ)
    → (n ≡ x) ↔ IsExcludedBy n r
name_excludes r x negative source lacks n = (
  λ same. record { negative = negative; text = x; source = source; excludes = the_name lacks same },
  λ by. grind (arith, by, source, lacks, Lacks-here star),
)

-- one with a star excludes the names of its pattern: after its first star there is no other
pub pattern_excludes : (r : Reading) (x before after : List ℕ) → ∥ IsAccepted r ∥₁ → r.mode ≡ Negative
    → r.source ≡ Some x → x ≡ before ++ (star ∷ after) → Lacks star before
    → (n : List ℕ) → ((word : List ℕ) × Fits before after n word) ↔ IsExcludedBy n r
pattern_excludes r x before after accepted negative source starred lacks n = (
  λ covers. record {
    negative = negative;
    text = x;
    source = source;
    excludes = by_pattern before after covers.0
        (record { starred = starred; first = lacks; last = last }) covers.1;
  },
  λ by. let is : x ≡ by.text = cc in elim by.excludes [
    | the_name none same ↦ absurd (Lacks-here star before after (rw (← is, starred) at none))
    | by_pattern before2 after2 word split covers ↦
        let once = first_once star before before2 after after2 lacks split.first (sym starred ∙ is ∙ split.starred) in
        (word, rw (once.0, once.1) covers)
  ],
)
  where
    last : Lacks star after
    last = Lacks-from_absent star after
        (λ more. accepted_few r x accepted (inl source)
        (record { before = before; between = more.before; after = more.after; here = rw more.here at starred }))

pub exclusions_more : (g : List Reading) (r : Reading) (n : List ℕ) (Old New : Type 0) → Old ↔ IsExcluded g n
    → New ↔ (Old ⊎ IsExcludedBy n r) → New ↔ IsExcluded (g ++ r ∷ []) n
exclusions_more [] r n Old New before added = grind (arith, before, added)
exclusions_more (q ∷ g) r n Old New before added =
    grind (
      arith,
      before,
      added,
      exclusions_more g r n (IsExcluded g n) (IsExcluded g n ⊎ IsExcludedBy n r)
          (grind arith) (grind arith),
    )

pub index_more : (old new : List ℕ → Option ℕ) (x : List ℕ) (i : ℕ)
    → ((n : List ℕ) → new n ≡ cond (bytes_eq x n) (Some i) (old n))
    → (n : List ℕ) → (IsSome (new n) ↔ (IsSome (old n) ⊎ (n ≡ x)))
    × ((k : ℕ) → new n ≡ Some k → (old n ≡ Some k) ⊎ ((k ≡ i) × (n ≡ x)))
index_more old new x i updates n = let cases = cases_Bool (bytes_eq x n) in grind (
  arith,
  cases,
  bytes_decides x n,
  updates n,
)

pub exclusions_at_more : (g : List Reading) (r : Reading) (i : ℕ) (old new : Exclusions) → i ≡ length g
    → AreExclusionsAt g old
    → ((n : List ℕ) (k : ℕ) → ExcludeNameAt new n k → ExcludeNameAt old n k ⊎ ((k ≡ i) × IsExcludedBy n r))
    → AreExclusionsAt (g ++ r ∷ []) new
exclusions_at_more g r i old new long before adds n k at = elim (adds n k at) [
  | inl was ↦ let (q, there, by) = before n k was in (q, grind (arith, common_steps, gets, there), by)
  | inr (same, by) ↦ (r, grind (arith, common_steps, gets, same, long), by)
]

-- a name is excluded where a spec is told that excludes it
pub told_by_some : (es : Exclusions) (n : List ℕ) (found : Option ℕ) (b : Bool)
    → MatchOption found (¬ (ExcludeName es n)) (ExcludeNameAt es n) → b ≡ is_some found → IsTrue b ↔ ExcludeName es n
told_by_some es n found b at is = grind (arith, at, is)

pub Any-push-cases : {X : Type 0} (P : X → Type 0) (xs : List X) (x : X) → Any P (xs ++ x ∷ []) ↔ (Any P xs ⊎ P x)
Any-push-cases P xs x = (
  λ any. grind (arith, common_steps),
  λ any. elim any [
    | inl old ↦ grind (arith, common_steps)
    | inr last ↦
        Any-push P xs x last
  ],
)
