-- The arguments of a call, without the program's own name, and the commands that they name. This project's
-- own rule.
use Rattle.std.specs.Prelude.{◌≡◌, ◌≢◌, ℕ, List, [], ◌∷◌, Option, None, Some, codes}
use Rattle.refspec_map.specs.declared.command.Command.{Command}
use Rattle.refspec_map.specs.declared.command.Command.TheVariants as command

-- the arguments of a command
abbrev pub arguments_of : Command → List (List ℕ)
arguments_of command.CanonFetch = codes "canon" ∷ codes "fetch" ∷ []
arguments_of command.CanonPush = codes "canon" ∷ codes "push" ∷ []
arguments_of command.Lhs = codes "lhs" ∷ []
arguments_of command.Rhs = codes "rhs" ∷ []
arguments_of command.Plan = codes "plan" ∷ []

-- the arguments are those of the command; for `None`, those of no command
abbrev pub AreArgumentsOf : List (List ℕ) → Option Command → Type 0
AreArgumentsOf words (Some c) = words ≡ arguments_of c
AreArgumentsOf words None = (c : Command) → words ≢ arguments_of c
