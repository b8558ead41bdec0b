-- Each text adds its result.
use Rattle.refspec_io.specs.Read.{IsChecked}
use Rattle.refspec_io.proofs.CheckedLemmas.{zip_all, zip_next}
use Rattle.refspec_io.proofs.checked.check_all.Goals as goal

pub loop-text-preserved : goal.loop-text-preserved
loop-text-preserved c = zip_next IsChecked c.args.texts.now c.loop-text.text-index _ c.loop-text.all.items
    c.push.new.self.items c.in_ok-check.field-0 c.loop-text-test.true c.loop-text.invariant c.in_ok-check.ensures
    c.in_ok-push.ensures.items

pub returns : goal.returns
returns c = zip_all IsChecked c.args.texts.now c.loop-text.text-index c.loop-text.all.items c.loop-text-test.false
    c.loop-text.invariant
