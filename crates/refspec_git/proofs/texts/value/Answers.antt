-- The location is that of the setting.
use Rattle.std.proofs.Common.{ap, List, ℕ}
use Rattle.gix_refspec_text.specs.declared.parsing.Operation.{Operation}
use Rattle.refspec_io.specs.Texts.{Given, Spot}
use Rattle.refspec_git.proofs.texts.value.Goals as goal

-- a text at a location
abbrev at : Operation → List ℕ → Spot → Given
at op bytes spot = record { spot = spot; operation = op; bytes = bytes }

pub returns : goal.returns
returns c = ap (at c.args.operation c.args.spec.now) c.location_of.ensures
