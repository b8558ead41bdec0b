-- A spec adds one reading; a refused text is found at its index.
use Rattle.refspec_io.proofs.CheckedLemmas.{HasBad-at, specs_next}
use Rattle.refspec_io.proofs.checked.all_good.Goals as goal

pub returns-in-Bad : goal.returns-in-Bad
returns-in-Bad c = HasBad-at c.args.all.now c.loop-checked.checked-index c.checked-item.result c.in-Bad.text
    c.in-Bad.error c.loop-checked-test.true c.checked-item.is c.in-Bad.is

pub loop-checked-preserved : goal.loop-checked-preserved
loop-checked-preserved c = specs_next c.args.all.now c.loop-checked.checked-index c.checked-item.result c.in-Good.text
    c.in-Good.spec c.loop-checked.specs.items c.push.new.self.items c.loop-checked-test.true c.checked-item.is
    c.in-Good.is c.in_ok-push-in-Good.ensures.items c.loop-checked.invariant
