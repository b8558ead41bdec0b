-- Each spec adds its text.
use Rattle.refspec_io.proofs.RowLemmas.{texts_next}
use Rattle.refspec_io.proofs.canonical.canonical_texts.Goals as goal

pub loop-spec-preserved : goal.loop-spec-preserved
loop-spec-preserved c = texts_next c.args.specs.now c.loop-spec.spec-index c.spec-item.result c.loop-spec.texts.items
    c.push.new.self.items c.in_ok-to_bstring.field-0 c.loop-spec-test.true c.spec-item.is c.in_ok-to_bstring.ensures
    c.in_ok-push.ensures.items c.loop-spec.invariant
