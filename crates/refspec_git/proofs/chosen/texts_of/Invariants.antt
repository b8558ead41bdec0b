-- the texts are those in the settings so far
use Rattle.std.proofs.Common.{[], map, take}
use Rattle.refspec_io.specs.Texts.{AddsValues, given_of}
use Rattle.refspec_git.proofs.chosen.texts_of.Given as goal

abbrev pub invariant-loop-setting : goal.invariant-loop-setting
invariant-loop-setting l = AddsValues (take l.setting-index l.values) [] (map given_of l.texts.items)
