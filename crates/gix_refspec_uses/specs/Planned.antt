-- What a fetch writes, by the definitions of the library.
use Rattle.std.specs.Prelude.{◌≡◌, Bool, true, false, List, map, filter}
use Rattle.std.specs.List.{Contains}
use Rattle.gix_refspec_text.specs.declared.parsing.Operation.TheVariants.{Fetch}
use Rattle.gix_refspec_text.specs.declared.spec.RefSpecRef.{RefSpecRef}
use Rattle.gix_refspec_plan.specs.declared.Origin.{Origin}
use Rattle.gix_refspec_plan.specs.declared.Update.{Update}
use Rattle.gix_refspec_plan.specs.declared.Verdict.{Verdict}
use Rattle.gix_refspec_plan.specs.declared.Verdict.TheVariants as verdict
use Rattle.gix_refspec.specs.Specs.Reading.{Reading}
use Rattle.gix_refspec.specs.Views.Spec.{reading_of}
use Rattle.gix_refspec.specs.Views.Group.{is_for}
use Rattle.gix_refspec_plan.specs.Views.Plan.{planned_of}
use Rattle.gix_refspec.specs.Matching.Match.{Ref}
use Rattle.gix_refspec_match.specs.Matching.Missing.{LacksSource}
use Rattle.gix_refspec_plan.specs.Matching.Plan.{IsPlan, Planned, Wish}
use Rattle.gix_refspec_plan.specs.Laws.Fetches.{AreWrittenOnce, DoConflict, IsRequired}
use Rattle.gix_refspec_uses.specs.declared.planner.Fetch.{Fetch as FetchMade}
use Rattle.gix_refspec_uses.specs.declared.planner.Fetch.TheVariants as made

-- the readings of the fetches among the specs, in order
abbrev pub fetch_readings : List RefSpecRef → List Reading
fetch_readings specs = map reading_of (filter (is_for Fetch) specs)

-- whether the update is written
abbrev pub has_written : Verdict → Bool
has_written verdict.Written = true
has_written (verdict.LeftOut side) = false
has_written verdict.InConflict = false
has_written verdict.Overruled = false
has_written verdict.DirectoryConflict = false

abbrev pub is_written : Update → Bool
is_written u = has_written u.verdict

-- the remote has each source that it has to have, and no two updates are from different sources to one ref
pub record IsWhole (wish : Wish) (refs : List Ref) (planned : List Planned) : Type 0 where
  pub present : (r : Reading) → IsRequired wish r → ¬ (LacksSource refs r)
  pub free : (p q : Planned) → Contains planned p → Contains planned q → ¬ (DoConflict p q)

-- the updates are exactly those of the plan that are written, in order. Nothing hinders the plan, and no ref is written
-- twice, nor two of which one is a directory of the other
pub record AreFetched (wish : Wish) (refs : List Ref) (fetched : List Update) : Type 0 where
  pub updates : List Update
  pub missing : List Origin
  pub plan : IsPlan wish refs (map planned_of updates) missing
  pub exactly : fetched ≡ filter is_written updates
  pub whole : IsWhole wish refs (map planned_of updates)
  pub once : AreWrittenOnce (map planned_of updates)

-- these are the updates of the plan, and the missing sources, and something hinders it
pub record IsHindered (wish : Wish) (refs : List Ref) (planned : List Planned) (missing : List Origin) : Type 0 where
  pub plan : IsPlan wish refs planned missing
  pub hindered : ¬ (IsWhole wish refs planned)

-- if the fetch is carried out, P holds of its updates; if it is hindered, of its plan
abbrev pub IfCarriedOut : FetchMade → (List Update → Type 0) → Type 0
IfCarriedOut (made.CarriedOut updates) P = P updates.items
IfCarriedOut (made.Hindered plan) P = Unit {0}

abbrev pub IfHindered : FetchMade → (List Planned → List Origin → Type 0) → Type 0
IfHindered (made.CarriedOut updates) P = Unit {0}
IfHindered (made.Hindered plan) P = P (map planned_of plan.updates.items) plan.missing.items
