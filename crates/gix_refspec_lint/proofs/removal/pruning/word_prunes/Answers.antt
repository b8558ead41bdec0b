use Rattle.gix_refspec_lint.proofs.Common.{[], ◌∷◌, ◌++◌, take_all, arith, one_more_mapped, bstring_bytes, name}
use Rattle.gix_refspec_lint.proofs.Common.{MatchBool-at_false}
use Rattle.gix_refspec_lint.specs.Private.Removals.{IsSameAt, all_of, rest_of}
use Rattle.gix_refspec_lint.proofs.removal.pruning.word_prunes.Goals as goal

pub loop-word-preserved : goal.loop-word-preserved
loop-word-preserved c =
    one_more_mapped bstring_bytes
    (λ w. IsSameAt (all_of c.args.lists.now) (rest_of c.args.lists.now) (c.args.far.0.now ++ (w ++ c.args.far.1.now))
    (name (c.args.near.0.now ++ (w ++ c.args.near.1.now)) ∷ []))
    c.args.lists.now.words.now c.loop-word.word-index c.word-item.result c.loop-word.invariant c.loop-word-test.true
    c.word-item.is (MatchBool-at_false _ _ c.if-branch.false c.in_ok-word_differs.ensures)

pub returns : goal.returns
returns c = rw (take_all c.loop-word.word-index c.args.lists.now.words.now (omega arith)) at c.loop-word.invariant
