-- A refused text is found at its index.
use Rattle.refspec_io.proofs.CheckedLemmas.{AreGood-all, AreGood-next, HasBad-here}
use Rattle.refspec_io.proofs.checked.has_bad.Goals as goal

pub returns-then-is_bad : goal.returns-then-is_bad
returns-then-is_bad c = HasBad-here c.args.all.now c.loop-checked.checked-index c.checked-item.result
    c.loop-checked-test.true c.checked-item.is (rw c.if-is_bad.true at c.is_bad.ensures)

pub loop-checked-preserved : goal.loop-checked-preserved
loop-checked-preserved c = AreGood-next c.args.all.now c.loop-checked.checked-index c.checked-item.result
    c.loop-checked-test.true c.checked-item.is (rw c.if-is_bad.false at c.is_bad.ensures) c.loop-checked.invariant

pub returns : goal.returns
returns c = AreGood-all c.args.all.now c.loop-checked.checked-index c.loop-checked-test.false c.loop-checked.invariant
