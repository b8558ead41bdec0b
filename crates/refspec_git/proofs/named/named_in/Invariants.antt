-- the arguments so far name refs
use Rattle.std.proofs.Common.{take}
use Rattle.std.specs.List.{All, AllZip}
use Rattle.refspec_git.specs.Named.{IsBad, IsNamed}
use Rattle.refspec_git.proofs.named.named_in.Given as goal

abbrev pub invariant-loop-number : goal.invariant-loop-number
invariant-loop-number g l = AllZip IsNamed (take l.number l.arguments) l.named.items
    × All (λ a. ¬ (IsBad a)) (take l.number l.arguments)
