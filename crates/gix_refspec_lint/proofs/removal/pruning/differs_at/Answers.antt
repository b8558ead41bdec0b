use Rattle.gix_refspec_lint.proofs.Common.{map, take_all, arith, of_element, one_more_mapped, IsRefName, IsValidSource}
use Rattle.gix_refspec_lint.proofs.Common.{start_of, refs_of, MatchBool-at_false}
use Rattle.gix_refspec_lint.specs.Matching.Removal.{IsStaleByOne}
use Rattle.gix_refspec_lint.specs.Private.Removals.{all_of, rest_of}
use Rattle.gix_refspec_lint.proofs.removal.pruning.differs_at.Goals as goal

pub loop-source-preserved : goal.loop-source-preserved
loop-source-preserved c =
    one_more_mapped start_of (λ s. IsValidSource s → IsRefName c.args.local.now
    → ¬ (IsStaleByOne (all_of c.args.lists.now) (rest_of c.args.lists.now) (refs_of s) c.args.local.now))
    c.args.sources.now c.loop-source.source-index c.source-item.result
    c.loop-source.invariant c.loop-source-test.true c.source-item.is
    (MatchBool-at_false _ _ c.if-branch-2.false c.in_ok-differs_with.ensures)

pub returns : goal.returns
returns c = record {
  alone = MatchBool-at_false _ _ c.if-branch.false c.in_ok-differs_alone.ensures;
  beside = λ s there. of_element (λ s. IsValidSource s → IsRefName c.args.local.now
      → ¬ (IsStaleByOne (all_of c.args.lists.now) (rest_of c.args.lists.now) (refs_of s) c.args.local.now))
      (map start_of c.args.sources.now) s
      (rw (take_all c.loop-source.source-index c.args.sources.now (omega arith)) at c.loop-source.invariant) there;
}
