-- the names are those of the arguments so far
use Rattle.std.proofs.Common.{ℕ, List, take}
use Rattle.std.specs.List.{All, AllZip}
use Rattle.refspec_git.specs.Named.{AreSeen, IsFound, IsNothing}
use Rattle.refspec_git.proofs.named.names_of.Given as goal

abbrev pub invariant-loop-one : goal.invariant-loop-one
invariant-loop-one l = (all : List (List ℕ)) × AllZip (IsFound l.existing l.remotes) (take l.one-index l.named) all
    × All (λ n. ¬ (IsNothing n)) (take l.one-index l.named) × AreSeen all l.names
