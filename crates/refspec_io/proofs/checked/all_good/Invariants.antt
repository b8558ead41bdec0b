-- the texts so far are these specs
use Rattle.std.proofs.Common.{map, take}
use Rattle.std.specs.List.{AllZip}
use Rattle.gix_refspec.specs.Views.Spec.{reading_of}
use Rattle.refspec_io.specs.Read.{IsSpec}
use Rattle.refspec_io.proofs.checked.all_good.Given as goal

abbrev pub invariant-loop-checked : goal.invariant-loop-checked
invariant-loop-checked l = AllZip IsSpec (take l.checked-index l.all) (map reading_of l.specs.items)
