-- what becomes of each value so far
use Rattle.std.proofs.Common.{map, take}
use Rattle.std.specs.List.{AllZip}
use Rattle.refspec_io.specs.Texts.{given_of}
use Rattle.refspec_commands.specs.Renames.{IsValueOf}
use Rattle.refspec_commands.proofs.renames.answer.answer_to.Given as goal

abbrev pub invariant-loop-text : goal.invariant-loop-text
invariant-loop-text l = AllZip (IsValueOf l.fn.renaming.old.now l.fn.renaming.new.now)
    (map given_of (take l.text-index l.texts)) l.values.items
