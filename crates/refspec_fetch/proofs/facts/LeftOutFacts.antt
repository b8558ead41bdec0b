-- The objects of updates that are left out, overruled or in a directory conflict, and the updates of each verdict.
use Rattle.std.proofs.Common.{◌≡◌, List, [], ◌∷◌, Some, codes, refl}
use Rattle.std.specs.Str.{chars, is_utf8}
use Rattle.gix_refspec.specs.declared.match_group.ref_names.InvalidSide.TheVariants as side
use Rattle.gix_refspec_plan.specs.declared.Origin.TheVariants as origin
use Rattle.gix_refspec_plan.specs.declared.Verdict.{Verdict}
use Rattle.gix_refspec_plan.specs.declared.Verdict.TheVariants as verdict
use Rattle.gix_refspec.specs.Matching.Mappings.{name}
use Rattle.gix_refspec_plan.specs.Matching.Plan.{Planned}
use Rattle.refspec_json.specs.Objects.{directory_conflict_object, left_out_object, line_of, overruled_object}
use Rattle.refspec_fetch.specs.LeftOut.{IsLeftOutLine, IsNestedLine, IsOverruledLine, side_name}
use Rattle.refspec_fetch.specs.Verdicts.{in_conflict_of, left_out_of, nested_of, overruled_of, unwritable, written_of}

abbrev judged : Verdict → Planned
judged v = record {
  source = name (codes "refs/heads/a");
  item = Some 0;
  destination = Some (codes "refs/o/a");
  origin =
      origin.Configured 0;
  verdict = v;
}

pub sides : (side_name side.Source ≡ codes "source") × (side_name side.Destination ≡ codes "destination")
    × (side_name side.Both ≡ codes "both")
sides = (refl, refl, refl)

-- the sentence is left open, and the other destination
pub objects : IsLeftOutLine (codes "a:b") (unwritable side.Both (judged (verdict.LeftOut side.Both)))
    (line_of (left_out_object (codes "refs/heads/a") (Some (codes "refs/o/a")) (codes "a:b") (codes "configured")
    (codes "both") (codes "m")))
    × IsOverruledLine (codes "a:b") (judged verdict.Overruled)
    (line_of (overruled_object (codes "refs/heads/a") (Some (codes "refs/o/a")) (codes "a:b") (codes "configured")
    (codes "m")))
    × IsNestedLine (codes "a:b") (judged verdict.DirectoryConflict)
    (line_of (directory_conflict_object (codes "refs/heads/a") (Some (codes "refs/o/a")) (codes "a:b")
    (codes "configured") (codes "refs/o") (codes "m")))
unfolding is_utf8 chars lib.Utf8.encode
objects = ((codes "m", refl), (codes "m", refl), (codes "refs/o", codes "m", refl))

abbrev all_verdicts : List Planned
all_verdicts = judged verdict.Written ∷ judged (verdict.LeftOut side.Source) ∷ judged verdict.InConflict ∷ judged
    verdict.Overruled ∷ judged verdict.DirectoryConflict ∷ judged (verdict.LeftOut side.Both) ∷ []

-- each update is among those of its verdict, in order, and a left out one with its side
pub parted : (written_of all_verdicts ≡ judged verdict.Written ∷ [])
    × (in_conflict_of all_verdicts ≡ judged verdict.InConflict ∷ [])
    × (overruled_of all_verdicts ≡ judged verdict.Overruled ∷ [])
    × (left_out_of all_verdicts ≡ unwritable side.Source (judged (verdict.LeftOut side.Source)) ∷ unwritable side.Both
    (judged (verdict.LeftOut side.Both)) ∷ []) × (nested_of all_verdicts ≡ judged verdict.DirectoryConflict ∷ [])
parted = (refl, refl, refl, refl, refl)
