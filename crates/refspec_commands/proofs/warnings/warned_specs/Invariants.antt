-- the objects of the texts so far
use Rattle.std.proofs.Common.{map, take}
use Rattle.std.specs.List.{AllZip}
use Rattle.refspec_json.specs.Views.{warned_texts}
use Rattle.refspec_io.specs.Texts.{given_of}
use Rattle.refspec_commands.specs.Warned.{IsWarned}
use Rattle.refspec_commands.proofs.warnings.warned_specs.Given as goal

abbrev pub invariant-loop-text : goal.invariant-loop-text
invariant-loop-text l = AllZip IsWarned (map given_of (take l.text-index l.texts)) (map warned_texts l.specs.items)
