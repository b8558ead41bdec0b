-- The output of `plan` and `stale`: the question that a task asks, and what is reported of the answer.
use Rattle.std.specs.Prelude.{◌≡◌, ◌≢◌, ◌⊎◌, ℕ, Bool, true, false, List, [], drop, map, take}
use Rattle.bstr.specs.BStr.{bstr_bytes}
use Rattle.gix_refspec.specs.Specs.Reading.{Reading}
use Rattle.gix_refspec.specs.Matching.Match.{Ref}
use Rattle.gix_refspec_plan.specs.Matching.Plan.{Wish}
use Rattle.refspec_io.specs.declared.call.Call.{Call}
use Rattle.refspec_io.specs.declared.call.Command.{Command}
use Rattle.refspec_io.specs.declared.call.Command.TheVariants as command
use Rattle.refspec_io.specs.declared.call.Task.{Task}
use Rattle.refspec_io.specs.Input.{end_byte}
use Rattle.refspec_io.specs.Json.{AddsObjects}
use Rattle.refspec_io.specs.Malformed.{IsMalformed}
use Rattle.refspec_io.specs.Refs.{ListsNames}
use Rattle.refspec_fetch.specs.declared.question.Subject.{Subject}
use Rattle.refspec_fetch.specs.declared.question.Subject.TheVariants as subject
use Rattle.refspec_fetch.specs.declared.report.Style.{Style}
use Rattle.refspec_fetch.specs.Answer.{Answer, IsAnswer, IsStatus, Question, asks_stale}
use Rattle.refspec_fetch.specs.Report.{AddsAnswer, Report}

-- what a call asks for, by the readings of its specs: the first of them are given, the others configured
abbrev pub wish_of_task : Task → List Reading → Wish
wish_of_task task g = record {
  given = take task.given g;
  configured = drop task.given g;
  merges =
      map bstr_bytes task.call.now.merges.items;
  tags = task.call.now.tags;
}

-- what a call asks about the fetch
abbrev pub subject_by : Command → Bool → Subject
subject_by command.Stale prune = subject.Stale
subject_by _ true = subject.Both
subject_by _ false = subject.Updates

abbrev pub subject_of : Call → Subject
subject_of call = subject_by call.command call.prune

-- how a call shows the answer
abbrev pub style_of : Call → Style
style_of call = record { long = call.long; limit = call.limit; is_watched = call.is_watched; local = call.local }

-- the list of local refs, which is empty unless the call asks about them
abbrev pub local_if : Bool → Task → List ℕ
local_if true task = task.local.now
local_if false task = []

-- the refs of the remote, which are all records of the input; and the refs and bad records of the list of local refs
pub record AreListed (task : Task) (refs local : List Ref) (unread : List (List ℕ)) : Type 0 where
  pub remote : ListsNames (end_byte task.call.now.ends) task.input.now refs []
  pub here : ListsNames (end_byte task.call.now.ends) (local_if (asks_stale (subject_of task.call.now)) task) local
      unread

-- the question that a task asks, by the readings of its specs
pub record Asks (task : Task) (g : List Reading) (q : Question) : Type 0 where
  pub subject : q.subject ≡ subject_of task.call.now
  pub wish : q.wish ≡ wish_of_task task g
  pub listed : AreListed task q.refs q.local q.unread

-- some records of an input are bad, and the results grew by these alone
pub record ReportsBad (end : ℕ) (input : List ℕ) (old new : Report) : Type 0 where
  pub refs : List Ref
  pub bad : List (List ℕ)
  pub listed : ListsNames end input refs bad
  pub some : bad ≢ []
  pub malformed : AddsObjects old.form IsMalformed bad old.results new.results
  pub form : new.form ≡ old.form

-- the status of an answer, as a flag
abbrev pub IsRefused : Answer → Bool → Type 0
IsRefused a true = IsStatus a 1
IsRefused a false = IsStatus a 0

-- the answer to the question of a task was reported
pub record ReportsAnswer (task : Task) (g : List Reading) (refused : Bool) (old new : Report) : Type 0 where
  pub answer : Answer
  pub asked : Asks task g answer.question
  pub answers : IsAnswer answer
  pub ended : IsRefused answer refused
  pub reported : AddsAnswer (style_of task.call.now) answer old new

-- the report of a fetch for a task and specs with these readings; or if a record of the input is bad, only of that, and
-- the call is refused
abbrev pub AddsFetch : Task → List Reading → Bool → Report → Report → Type 0
AddsFetch task g refused old new =
    ReportsAnswer task g refused old new
    ⊎ (ReportsBad (end_byte task.call.now.ends) task.input.now old new × (refused ≡ true))
