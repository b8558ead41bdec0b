-- Answers to a call.
use Rattle.std.proofs.Common.{◌≡◌, ◌≢◌, ◌∙◌, inl, inr, IfErr, IfOk, List, None, Some, Result, Err, Ok}
use Rattle.std.proofs.Common.{sym, ℕ}
use Rattle.refspec_io.specs.declared.fault.Fault.{Fault}
use Rattle.refspec_io.specs.declared.settings.Setting.{Setting}
use Rattle.refspec_request.specs.declared.arguments.Request.{Request}
use Rattle.refspec_request.specs.declared.arguments.Subcommand.TheVariants as command
use Rattle.refspec_request.specs.declared.choice.Repository.{Repository}
use Rattle.refspec_request.specs.declared.refusal.Refusal.{Refusal}
use Rattle.refspec_request.specs.declared.remotes.OldRemote.{OldRemote}
use Rattle.refspec_request.specs.Remotes.{IsDefault}
use Rattle.refspec_git.specs.declared.answer.Answer.{Answer}
use Rattle.refspec_git.specs.declared.answer.Answer.TheVariants as answer
use Rattle.refspec_git.specs.declared.answer.Stop.{Stop}
use Rattle.refspec_git.specs.declared.answer.Stop.TheVariants as stop
use Rattle.refspec_git.specs.Call.{AnswersIn, AnswersRequest, AnswersUsable, EndsIn, StopsWith}
use Rattle.refspec_git.specs.Repository.{IsPrinted, IsRepository}
use Rattle.refspec_git.specs.World.{World}

-- what follows for each answer follows for a result
pub if_ok : {X E : Type 0} (P Q : X → Type 0) (o : Result X E) → ((x : X) → P x → Q x) → IfOk o P → IfOk o Q
if_ok P Q (Ok x) step is = step x is
if_ok P Q (Err e) step is = is

-- and for each reason to stop
pub if_stopped : {X : Type 0} (P : Stop → Type 0) (Q : Refusal → Type 0) (o : Result X Stop)
    → ((e : Refusal) → P (stop.Refused e) → Q e) → IfErr o P → IfErr o (StopsWith Q)
if_stopped P Q (Ok x) step is = is
if_stopped P Q (Err (stop.Refused e)) step is = step e is
if_stopped P Q (Err (stop.Failed fault)) step is = tt

-- there is a default remote, or none
pub one_default : (settings : List Setting) (branch : List ℕ) (files : List OldRemote) (name : List ℕ)
    → IsDefault settings branch files (Some name) → ¬ (IsDefault settings branch files None)
one_default settings branch files name (inl named) (none, nowhere) =
    let both : None ≡ Some name = sym none ∙ named in
    cc
one_default settings branch files name (inr (free, only, located)) (none, nowhere) = nowhere name only located

-- another command than `check` is answered
pub answers_in : (w : World) (r : Repository) (request : Request) → request.command ≢ command.Check → (a : Answer)
    → AnswersUsable r request a → AnswersIn w r request a
answers_in w r request other (answer.Asks lines) is = (other, is)
answers_in w r request other (answer.Reports output) is = inr (other, is)

-- a request is answered in its repository
pub repository_answered : (w : World) (request : Request) (folder config head : List ℕ) (r : Repository)
    (o : Result Answer Fault) → IfOk o (EndsIn w r request) → IsPrinted w folder config head
    → IsRepository w request folder config head r → IfOk o (AnswersRequest w request)
repository_answered w request folder config head r (Ok a) ends printed is =
    inr (folder, config, head, r, printed, is, ends)
repository_answered w request folder config head r (Err fault) ends printed is = ends
