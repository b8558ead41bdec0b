-- What is excluded and mapped is so at a name that decides.
use Rattle.gix_refspec_lint.proofs.{Common.{take_all, arith, IfOk-weaker}, lemmas.LeftOutLemmas.shared_told}
use Rattle.gix_refspec_lint.proofs.exclusions.excludes_common.Goals as goal

pub returns : goal.returns
returns c g is share =
    IfOk-weaker c.excludes_overlapping.result _ _
    (λ does. shared_told g is.letter is.free _ _ c.args.common.now c.requires.0 c.args.spec.now.accepted share does
    (rw (
      take_all c.loop-word.word-index c.deref-word-items.result.now (omega arith),
      c.deref-word-items.ensures.value,
      is.words,
    ) at c.loop-word.invariant)) c.excludes_overlapping.ensures
