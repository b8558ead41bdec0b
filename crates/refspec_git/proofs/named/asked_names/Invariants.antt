-- the lines are those of the arguments so far
use Rattle.std.proofs.Common.{◌≡◌, take}
use Rattle.refspec_git.specs.Named.{name_lines_from}
use Rattle.refspec_git.proofs.named.asked_names.Given as goal

abbrev pub invariant-loop-number : goal.invariant-loop-number
invariant-loop-number l = l.asked.items ≡ name_lines_from 0 (take l.number l.named)
