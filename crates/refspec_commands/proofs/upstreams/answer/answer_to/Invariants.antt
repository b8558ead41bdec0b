-- what was found for each merged ref so far
use Rattle.std.proofs.Common.{take}
use Rattle.std.specs.List.{AllZip}
use Rattle.refspec_commands.specs.Upstreams.{IsFound}
use Rattle.refspec_commands.proofs.upstreams.answer.answer_to.Given as goal

abbrev pub invariant-loop-merged : goal.invariant-loop-merged
invariant-loop-merged l = AllZip IsFound (take l.merged-index l.question.merged.items) l.found.items
