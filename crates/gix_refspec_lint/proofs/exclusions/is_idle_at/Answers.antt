use Rattle.gix_refspec_lint.proofs.Common.{IfOk-weaker, IsIdleExclusion, MatchBool, Reading, same_Some, subst, sym, ◌∙◌}
use Rattle.gix_refspec_lint.proofs.lemmas.AlikeLemmas.{earlier_some}
use Rattle.gix_refspec_lint.proofs.lemmas.IndexLemmas.{reading_at}
use Rattle.gix_refspec_lint.proofs.exclusions.is_idle_at.Goals as goal

pub returns-in-Some : goal.returns-in-Some
returns-in-Some c g merges is are told = earlier_some _ _ _ c.in-Some.is told

pub returns : goal.returns
returns c g merges is are told = IfOk-weaker c.is_idle.result _ _
    (λ b tells r at. subst
    (λ (q : Reading). MatchBool b (IsIdleExclusion g merges q) (¬ (IsIdleExclusion g merges q)))
    (same_Some _ _ (sym (reading_at c.args.group.now.specs.now c.args.index c.index-group-index.result c.requires)
    ∙ at)) tells) (c.is_idle.ensures g merges is are)
