-- The answers to a call: Git commands, or a report.
use Rattle.std.specs.Prelude.{◌≡◌, ℕ, List}
use Rattle.std.specs.List.{flat_map}
use Rattle.refspec_io.specs.declared.report.Report.{Report}
use Rattle.refspec_request.specs.declared.ask.GitCall.{GitCall}
use Rattle.refspec_request.specs.Calls.{requested}
use Rattle.refspec_git.specs.declared.answer.Answer.{Answer}
use Rattle.refspec_git.specs.declared.answer.Answer.TheVariants as answer

-- the answer requests these commands, in order
abbrev pub Requests : List GitCall → Answer → Type 0
Requests calls (answer.Asks lines) = lines.items ≡ flat_map requested calls
Requests calls (answer.Reports output) = ⊥

-- it ends the call with a report and an exit status
abbrev pub IsReport : Report → ℕ → Answer → Type 0
IsReport report status (answer.Asks lines) = ⊥
IsReport report status (answer.Reports output) =
    (output.results ≡ report.results) × (output.messages ≡ report.messages) × (output.status ≡ status)
