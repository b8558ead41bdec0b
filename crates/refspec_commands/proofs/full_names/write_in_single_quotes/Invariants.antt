-- a quote, and the bytes so far
use Rattle.std.proofs.Common.{◌≡◌, ◌++◌, ◌∷◌, take, flat_map}
use Rattle.refspec_commands.specs.Advice.{within_quotes}
use Rattle.refspec_commands.proofs.full_names.write_in_single_quotes.Given as goal

abbrev pub invariant-loop-byte : goal.invariant-loop-byte
invariant-loop-byte l = l.out.items ≡ l.fn.out.items ++ (39 ∷ flat_map within_quotes (take l.byte-index l.text))
