use Rattle.gix_refspec_lint.proofs.Common.{◌++◌, map, take_all, arith, one_more_mapped, bstring_bytes, IfOk-weaker}
use Rattle.gix_refspec_lint.proofs.Common.{MatchBool-at_false}
use Rattle.gix_refspec_lint.proofs.lemmas.RemovalLemmas.{among_told}
use Rattle.gix_refspec_lint.specs.Private.Removals.{IsSameAlone, all_of, rest_of}
use Rattle.gix_refspec_lint.proofs.removal.pruning.differs_among.Goals as goal

pub loop-word-preserved : goal.loop-word-preserved
loop-word-preserved c =
    one_more_mapped bstring_bytes (λ w. IsSameAlone (all_of c.args.lists.now) (rest_of c.args.lists.now)
    (c.args.common.now.prefix.now ++ (w ++ c.args.common.now.suffix.now)))
    c.args.lists.now.words.now c.loop-word.word-index c.word-item.result c.loop-word.invariant c.loop-word-test.true
    c.word-item.is
    (rw (c.as_bytes.ensures, c.as_bstr.ensures, c.in_ok-local.ensures) at
    (MatchBool-at_false _ _ c.if-branch.false c.in_ok-differs_alone.ensures))

pub returns : goal.returns
returns c =
    IfOk-weaker c.differs_overlapping.result _ _
    (λ does. among_told _ _ (map bstring_bytes c.args.lists.now.words.now) c.args.common.now
    (rw (take_all c.loop-word.word-index c.args.lists.now.words.now (omega arith)) at c.loop-word.invariant) does)
    c.differs_overlapping.ensures
