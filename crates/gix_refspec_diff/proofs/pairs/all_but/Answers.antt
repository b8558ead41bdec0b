use Rattle.gix_refspec_diff.proofs.Common.{◌∙◌}
use Rattle.gix_refspec_diff.proofs.lemmas.ExampleLemmas.{valid_pushed}
use Rattle.gix_refspec_diff.proofs.pairs.all_but.Goals.{else-at-index, then-at-index+in_ok-from_slice+in_ok-push}
use Rattle.gix_refspec_diff.proofs.pairs.all_but.Goals as goal

pub loop-at-preserved : goal.loop-at-preserved
loop-at-preserved c all = elim c.if-at-index.branch [
  | then-at-index+in_ok-from_slice+in_ok-push w ↦ rw w.rest-is
      (valid_pushed c.args.names.now c.loop-at.at c.index-names-at.result c.loop-at.rest.items _ _ c.loop-at-test.true
      c.index-names-at.is (w.in_ok-from_slice.ensures ∙ w.as_bstr.ensures) w.in_ok-push.ensures.items
      (c.loop-at.invariant all) all)
  | else-at-index w ↦ rw w.rest-is (c.loop-at.invariant all)
]
