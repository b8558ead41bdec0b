-- the refspecs among the settings so far were added
use Rattle.std.proofs.Common.{map, take}
use Rattle.refspec_io.specs.Texts.{AddsValues, given_of}
use Rattle.refspec_io.proofs.texts.add_values.Given as goal

abbrev pub invariant-loop-setting : goal.invariant-loop-setting
invariant-loop-setting l = AddsValues (take l.setting-index l.settings) (map given_of l.fn.texts.items)
    (map given_of l.texts.items)
