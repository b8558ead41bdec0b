-- Branches as arguments name them, and as Git's configuration has them.
use Rattle.std.proofs.Common.{◌≡◌, [], ◌∷◌, List, Some, ap, arith, codes, get_or, inl, inr, length, refl, ℕ}
use Rattle.refspec_commands.specs.declared.upstreams.question.Setup.TheVariants as setup
use Rattle.refspec_git.specs.declared.branches.Branch.{Branch}
use Rattle.refspec_git.specs.Branches.{IsBelowHeads, IsHead, value_of_first}
use Rattle.refspec_git.specs.Upstreams.{IsSetup}
use Rattle.refspec_git.proofs.facts.ConfiguredFacts.{lent, valued}

-- of several values the first
pub first : value_of_first (valued (codes "branch.b.merge") (codes "m")
    ∷ (valued (codes "branch.b.merge") (codes "n") ∷ [])) ≡ Some (codes "m")
first = refl

-- a branch by its full name
pub below : IsBelowHeads (codes "refs/heads/m") (codes "m")
below = inl refl

-- the argument `@`, and none in lower case
no_head : ¬ (IsHead (codes "head"))
no_head (inl is) = omega (arith, ap (λ (l : List ℕ). get_or l 0 0) is)
no_head (inr is) = omega (arith, ap length is)

pub head : IsHead (codes "@") × ¬ (IsHead (codes "head"))
head = (inr refl, no_head)

-- a branch that merges `m`, from this repository
abbrev of_here : Branch
of_here = record { name = lent (codes "b"); remote = Some (lent (codes ".")); merge = Some (lent (codes "m")) }

pub setups : IsSetup of_here (setup.Here (lent (codes "m")))
setups = inl (refl, refl)
