-- the texts so far were read, in order
use Rattle.std.proofs.Common.{map, take}
use Rattle.std.specs.List.{AllZip}
use Rattle.gix_refspec.specs.Specs.Grammar.{Reads}
use Rattle.gix_refspec.specs.Views.Spec.{reading_of}
use Rattle.gix_refspec_c.specs.Group.{bytes_of}
use Rattle.gix_refspec_c.proofs.reading.read_all.Given as goal

abbrev pub invariant-loop-text : goal.invariant-loop-text
invariant-loop-text l = AllZip (Reads l.operation) (take l.text-index (map bytes_of l.texts))
    (map reading_of l.group.specs.items)
