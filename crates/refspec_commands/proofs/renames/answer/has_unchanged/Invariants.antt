-- each value so far changes
use Rattle.std.proofs.Common.{take}
use Rattle.std.specs.List.{All}
use Rattle.refspec_commands.specs.Renames.{IsUnchanged}
use Rattle.refspec_commands.proofs.renames.answer.has_unchanged.Given as goal

abbrev pub invariant-loop-value : goal.invariant-loop-value
invariant-loop-value l = All (λ v. ¬ (IsUnchanged v)) (take l.value-index l.values)
