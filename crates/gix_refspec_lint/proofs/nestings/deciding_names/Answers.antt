use Rattle.gix_refspec_lint.proofs.Common.{take_all, arith, refl, words_with}
use Rattle.gix_refspec_lint.proofs.lemmas.NestFoundLemmas.{deciding_there, name_of_overlap, name_of_word}
use Rattle.gix_refspec_lint.proofs.nestings.deciding_names.Goals as goal

pub loop-word-preserved : goal.loop-word-preserved
loop-word-preserved c = name_of_word _ _ _ _ c.word-item.result _ _ _ c.loop-word-test.true c.word-item.is
    c.loop-word.invariant c.in_ok-with_word.ensures c.in_ok-push.ensures.items

pub loop-shared-preserved : goal.loop-shared-preserved
loop-shared-preserved c = name_of_overlap _ _ _ _ _ _ _ _ _ c.loop-shared-test.true refl c.loop-shared.invariant
    c.in_ok-overlapping.ensures c.in_ok-push-2.ensures.items

pub returns : goal.returns
returns c letter words =
    deciding_there (words_with letter) _ _ _ _ _ c.in_ok-overlaps.ensures
    (rw (
      take_all c.loop-shared.shared-index c.deref-shared-items.result.now (omega arith),
      c.deref-shared-items.ensures.value,
      words,
    ) at c.loop-shared.invariant)
