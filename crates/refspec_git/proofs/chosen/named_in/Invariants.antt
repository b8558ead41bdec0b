-- the arguments so far are named
use Rattle.std.proofs.Common.{map, take}
use Rattle.refspec_git.specs.Chosen.{HasNamed}
use Rattle.refspec_git.proofs.chosen.named_in.Given as goal

abbrev pub invariant-loop-number : goal.invariant-loop-number
invariant-loop-number l = HasNamed l.request l.repository (map (λ a. a.now) (take l.number l.arguments)) l.named
