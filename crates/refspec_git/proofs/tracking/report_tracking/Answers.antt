-- The answer is on what the arguments name, and on what Git printed of refs.
use Rattle.std.proofs.Common.{◌∙◌, Bor, List, option_map, subst, ℕ}
use Rattle.std.specs.List.{AllZip}
use Rattle.refspec_git.specs.declared.named.NamedRef.{NamedRef}
use Rattle.refspec_git.specs.Named.{IsNamed}
use Rattle.refspec_git.specs.Tracking.{AnswersBy}
use Rattle.refspec_git.proofs.tracking.report_tracking.Goals as goal

pub returns-clause-ok : goal.returns-clause-ok
returns-clause-ok g c =
    let named = c.in_ok-named.named.items in
    let refs = option_map (λ r. r.now) c.as_deref.result in (
      λ none. (rw c.if-names_no_ref.false at c.names_no_ref.ensures) (c.as_slice.ensures.value ∙ none),
      named,
      refs,
      subst (λ (l : List (Bor (List ℕ))). AllZip IsNamed l named) c.as_slice-2.ensures.value c.in_ok-named.ensures.ok,
      subst (λ (l : List NamedRef). AnswersBy c.args.repository.now c.args.request.now l refs c.in_ok-answer.answer)
          c.as_slice-3.ensures.value c.in_ok-answer.ensures.ok,
    )
