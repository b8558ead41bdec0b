-- Sides with a star and without one, the refs for which a source may stand, and one of them that is excluded.
use Rattle.gix_refspec_plan.proofs.Common.{◌≡◌, ℕ, true, zero, suc, ◌<◌, List, ◌∷◌, ◌++◌, Option, None, Some}
use Rattle.gix_refspec_plan.proofs.Common.{MatchOption, All, drop, drop-cons, get_or, length, map, take}
use Rattle.gix_refspec_plan.proofs.Common.{take-append-drop, refl, sym, ap, ◌∙◌, subst, arith, Bor, Contains, is_some}
use Rattle.gix_refspec_plan.proofs.Common.{false≢true, get_or-map, length-map, Contains-append_right, BString}
use Rattle.gix_refspec_plan.proofs.Common.{bstring_bytes, star, Lacks, HasSeveralStars, Reading, SideKind, full_name}
use Rattle.gix_refspec_plan.proofs.Common.{partial, HasKind, IsCandidate, Fits, candidates, Matches, MatchesAs}
use Rattle.gix_refspec_plan.proofs.Common.{lacks_no_pattern, one_word, Lacks-here, Lacks-from_absent, Exclusions}
use Rattle.gix_refspec_plan.proofs.Common.{ExcludeName, ExcludeNameAt, matches_as, same_side, Pattern, ref_named}
use Rattle.gix_refspec_plan.proofs.Common.{HasParts, HasPatternState, IsNamedBy, WritesName, WritesPattern, Included}
use Rattle.gix_refspec_plan.proofs.Common.{All-contains, All-map}

-- what splitting a side at its first star says of it
abbrev IsSplitAt : List ℕ → Option (Bor (List ℕ) × Bor (List ℕ)) → Type 0
IsSplitAt x found = MatchOption found (Lacks star x) (λ parts. (x ≡ parts.0.now ++ (star ∷ parts.1.now))
    × Lacks star parts.0.now)

pub starred_unwritten : (r : Reading) (d n : List ℕ) (found : Option (Bor (List ℕ) × Bor (List ℕ)))
    → r.destination ≡ Some d → true ≡ is_some found → IsSplitAt d found → ¬ (WritesName r n)
starred_unwritten r d n found is some split by = grind (arith, split, Lacks-here star, false≢true)

pub parts_split : (x : List ℕ) (found : Option (Bor (List ℕ) × Bor (List ℕ))) → ¬ (HasSeveralStars x)
    → IsSplitAt x found → HasParts (Some x) found
parts_split x found few split = grind (arith, split, lacks_no_pattern x, Lacks-from_absent star, few)

pub unsplit_unwritten : (r : Reading) (p : Pattern) → HasParts r.destination None → ¬ (WritesPattern r p)
unsplit_unwritten r p none by = none by.destination p.before.now p.after.now by.has by.split

pub candidate_contained : (x n : List ℕ) → IsCandidate x n → Contains (candidates x) n
candidate_contained x n one = subst (λ (l : List (List ℕ)). Contains l n) (sym one.here)
    (Contains-append_right one.earlier (n ∷ one.later) n (zero, omega arith, refl))

contained_candidate : (x n : List ℕ) → Contains (candidates x) n → IsCandidate x n
contained_candidate x n (k, below, is) = record {
  earlier = take k (candidates x);
  later = drop (suc k) (candidates x);
  here = cc (take-append-drop k (candidates x), drop-cons (candidates x) k n below, is);
}

pub text_contained : (texts : List BString) (i : ℕ) (b : BString) (l : List (List ℕ)) → map bstring_bytes texts ≡ l
    → i < length texts → b ≡ get_or texts i b → Contains l (bstring_bytes b)
text_contained texts i b l same below is =
    subst (λ (m : List (List ℕ)). Contains m (bstring_bytes b)) same (
      i,
      rw (length-map texts bstring_bytes) below,
      get_or-map bstring_bytes texts i b (bstring_bytes b) below ∙ ap bstring_bytes (sym is),
    )

pub none_contained : (P : List ℕ → Type 0) (texts : List BString) (l : List (List ℕ)) → map bstring_bytes texts ≡ l
    → All (λ b. ¬ (P (bstring_bytes b))) texts → (s : List ℕ) → Contains l s → ¬ (P s)
none_contained P texts l same all s there = All-contains (λ t. ¬ (P t)) l s
    (subst (All (λ t. ¬ (P t))) same (All-map (λ t. ¬ (P t)) bstring_bytes texts all)) there

-- the spec at an index excludes a ref for which the source may stand, or none does
abbrev pub ExcludesNamed : Exclusions → Reading → Option ℕ → Type 0
ExcludesNamed es r by = MatchOption by ((s : List ℕ) → IsNamedBy r s → ¬ (ExcludeName es s))
    (λ k. (s : List ℕ) × IsNamedBy r s × ExcludeNameAt es s k)

module _ (es : Exclusions) (r : Reading) (x : List ℕ) (source : r.source ≡ Some x) where
  pub named_as : (k : SideKind) (s : List ℕ) → HasKind x k → IsNamedBy r s → MatchesAs k (ref_named s) None
  named_as k s of named = matches_as x k (ref_named s) None of
      (subst (λ (y : List ℕ). Matches y (ref_named s) None) (same_side r.source named.source x named.is source)
      named.stands)

  as_named : (k : SideKind) (s : List ℕ) → HasKind x k → MatchesAs k (ref_named s) None → IsNamedBy r s
  as_named k s of holds = record { source = x; is = source; stands = record { kind = k; of = of; is = holds } }

  pub full_excluded : (n : List ℕ) (by : Option ℕ) → HasKind x (full_name n) → MatchOption by (¬ (ExcludeName es n))
      (ExcludeNameAt es n) → ExcludesNamed es r by
  full_excluded n by of told = grind (arith, of, told, named_as (full_name n), as_named (full_name n))

  pub partial_excluded : (n : List ℕ) (by : Option ℕ) → HasKind x (partial n)
      → MatchOption by ((s : List ℕ) → Contains (candidates n) s → ¬ (ExcludeName es s))
      (λ k. (s : List ℕ) × Contains (candidates n) s × ExcludeNameAt es s k) → ExcludesNamed es r by
  partial_excluded n None of none = λ s named excluded. none s
      (candidate_contained n s (named_as (partial n) s of named).1) excluded
  partial_excluded n (Some k) of (s, there, at) = (
    s,
    as_named (partial n) s of (refl, contained_candidate n s there),
    at,
  )

-- a pattern writes a ref from one, so what is known of that says what the pattern does
pub source_included : (es : Exclusions) (p : Pattern) (n word : List ℕ) → Fits p.before.now p.after.now n word
    → (parts : Bor (List ℕ) × Bor (List ℕ)) → p.source ≡ Some parts
    → ¬ (ExcludeName es (parts.0.now ++ (word ++ parts.1.now))) → HasPatternState es p n Included
source_included es p n word fits parts has included = (
  (word, fits),
  λ s from excluded. grind (
    arith,
    one_word p.before.now p.after.now n from.word word from.fits fits,
    from.is,
  ),
)
