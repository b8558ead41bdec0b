-- the texts so far were checked
use Rattle.std.proofs.Common.{take}
use Rattle.std.specs.List.{AllZip}
use Rattle.refspec_io.specs.Read.{IsChecked}
use Rattle.refspec_io.proofs.checked.check_all.Given as goal

abbrev pub invariant-loop-text : goal.invariant-loop-text
invariant-loop-text l = AllZip IsChecked (take l.text-index l.texts) l.all.items
