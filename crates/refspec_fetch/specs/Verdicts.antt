-- The updates of a plan, parted by their verdicts.
use Rattle.std.specs.Prelude.{Bool, true, false, List, Option, Some, None}
use Rattle.std.specs.List.{filter, filter_map}
use Rattle.gix_refspec.specs.declared.match_group.ref_names.InvalidSide.{InvalidSide}
use Rattle.gix_refspec_plan.specs.declared.Verdict.{Verdict}
use Rattle.gix_refspec_plan.specs.declared.Verdict.TheVariants as verdict
use Rattle.gix_refspec_plan.specs.Matching.Plan.{Planned}

-- whether an update with this verdict is written; is in conflict; is overruled; is in a directory conflict
abbrev pub is_written : Verdict → Bool
is_written verdict.Written = true
is_written (verdict.LeftOut side) = false
is_written verdict.InConflict = false
is_written verdict.Overruled = false
is_written verdict.DirectoryConflict = false

abbrev pub is_in_conflict : Verdict → Bool
is_in_conflict verdict.Written = false
is_in_conflict (verdict.LeftOut side) = false
is_in_conflict verdict.InConflict = true
is_in_conflict verdict.Overruled = false
is_in_conflict verdict.DirectoryConflict = false

abbrev pub is_overruled : Verdict → Bool
is_overruled verdict.Written = false
is_overruled (verdict.LeftOut side) = false
is_overruled verdict.InConflict = false
is_overruled verdict.Overruled = true
is_overruled verdict.DirectoryConflict = false

abbrev pub is_nested : Verdict → Bool
is_nested verdict.Written = false
is_nested (verdict.LeftOut side) = false
is_nested verdict.InConflict = false
is_nested verdict.Overruled = false
is_nested verdict.DirectoryConflict = true

-- whether such an update is left out or in a directory conflict, so that the fetch ends with a failure
abbrev pub fails : Verdict → Bool
fails verdict.Written = false
fails (verdict.LeftOut side) = true
fails verdict.InConflict = false
fails verdict.Overruled = false
fails verdict.DirectoryConflict = true

-- an update that is left out, and the side that is no valid ref name
pub record Unwritable : Type 0 where
  pub update : Planned
  pub side : InvalidSide

abbrev pub unwritable : InvalidSide → Planned → Unwritable
unwritable side p = record { update = p; side = side }

-- the update, if this verdict leaves it out
abbrev pub left_out_by : Planned → Verdict → Option Unwritable
left_out_by p verdict.Written = None
left_out_by p (verdict.LeftOut side) = Some (unwritable side p)
left_out_by p verdict.InConflict = None
left_out_by p verdict.Overruled = None
left_out_by p verdict.DirectoryConflict = None

-- the updates of a plan that are written, left out, in conflict, overruled and in a directory conflict, each in order
abbrev pub written_of : List Planned → List Planned
written_of ps = filter (λ p. is_written p.verdict) ps

abbrev pub left_out_of : List Planned → List Unwritable
left_out_of ps = filter_map (λ p. left_out_by p p.verdict) ps

abbrev pub in_conflict_of : List Planned → List Planned
in_conflict_of ps = filter (λ p. is_in_conflict p.verdict) ps

abbrev pub overruled_of : List Planned → List Planned
overruled_of ps = filter (λ p. is_overruled p.verdict) ps

abbrev pub nested_of : List Planned → List Planned
nested_of ps = filter (λ p. is_nested p.verdict) ps

-- those that are left out or in a directory conflict, in order
abbrev pub failing_of : List Planned → List Planned
failing_of ps = filter (λ p. fails p.verdict) ps
