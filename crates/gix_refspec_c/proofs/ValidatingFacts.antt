-- Examples of verdicts, on two mappings from different sources to one destination.
use Rattle.std.proofs.Common.{◌≡◌, ◌≢◌, ℕ, List, [], ◌∷◌, length, true, false, Some, None, codes, refl, ap, arith}
use Rattle.gix_refspec.specs.Matching.Mappings.{Mapped, Source, name, id}
use Rattle.gix_refspec.specs.Matching.Validation.{HasConflictAt}
use Rattle.gix_refspec_c.specs.declared.validating.PairVerdictOut.{PairVerdictOut}
use Rattle.gix_refspec_c.specs.Validating.{IsVerdict, kept, removed, in_conflict, source_of}

-- a name isn't the id of the same bytes
pub told_apart : source_of true (codes "a") ≢ source_of false (codes "a")
told_apart same = cc

abbrev pub mapping : Source → List ℕ → Mapped
mapping s d = record { item = None; source = s; destination = Some d; spec = 0 }

abbrev pub a_to : List ℕ → Mapped
a_to d = mapping (name (codes "a")) d

abbrev pub verdict : ℕ → ℕ → PairVerdictOut
verdict v first = record { verdict = v; first = first }

-- how many bytes a source has
abbrev size_of : Source → ℕ
size_of (name n) = length n
size_of (id i) = length i

-- two mappings to one destination are in conflict, and the first of them is at the index 0
pub both_contested : IsVerdict (a_to (codes "refs/x") ∷ mapping (name (codes "main")) (codes "refs/x") ∷ [])
    (mapping (name (codes "main")) (codes "refs/x")) (verdict 3 0)
both_contested = in_conflict (codes "refs/x") refl (record {
  one = a_to (codes "refs/x");
  other = mapping (name (codes "main")) (codes "refs/x");
  has_one = (0, omega arith, refl);
  has_other = (1, omega arith, refl);
  one_to = refl;
  other_to = refl;
  differ = λ same. omega (arith, ap size_of same);
}) (a_to (codes "refs/x")) (record { at = refl; holds = refl; before = tt }) refl

-- a verdict of conflict has the number 3
pub conflicts_have_a_number : (l : List Mapped) (m : Mapped) (d : List ℕ) (v : PairVerdictOut) → m.destination ≡ Some d
    → HasConflictAt l d → IsVerdict l m v → v.verdict ≡ 3
conflicts_have_a_number l m d v goes at (kept free survive is) = absurd (free d goes at)
conflicts_have_a_number l m d v goes at (removed free gone is) = absurd (free d goes at)
conflicts_have_a_number l m d v goes at (in_conflict e to other first is three) = three
