-- Each branch adds what it merges.
use Rattle.std.proofs.Common.{List, subst, sym, take_all}
use Rattle.std.specs.List.{AllZip}
use Rattle.refspec_git.specs.declared.branches.Branch.{Branch}
use Rattle.refspec_git.specs.Upstreams.{IsMergedBy}
use Rattle.refspec_git.proofs.NamedLemmas.{zip_taken}
use Rattle.refspec_git.proofs.upstreams.question_of.Goals as goal

pub loop-one-preserved : goal.loop-one-preserved
loop-one-preserved c = λ settings are.
    subst (AllZip (IsMergedBy settings) _) (sym c.in_ok-push.ensures.items)
    (zip_taken (IsMergedBy settings) c.args.branches.now c.loop-one.one-index _ c.loop-one.merged.items
    c.merged_by.result c.loop-one-test.true (c.loop-one.invariant settings are) (c.merged_by.ensures settings are))

pub returns : goal.returns
returns c = λ settings are. subst (λ (l : List Branch). AllZip (IsMergedBy settings) l c.loop-one.merged.items)
    (take_all c.loop-one.one-index c.args.branches.now c.loop-one-test.false)
    (c.loop-one.invariant settings are)
