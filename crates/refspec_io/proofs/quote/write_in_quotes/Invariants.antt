-- a quote, and the escapes of the bytes so far
use Rattle.std.proofs.Common.{◌≡◌, ◌++◌, ◌∷◌, take, flat_map}
use Rattle.refspec_io.specs.Shown.{escaped}
use Rattle.refspec_io.proofs.quote.write_in_quotes.Given as goal

abbrev pub invariant-loop-byte : goal.invariant-loop-byte
invariant-loop-byte l = l.out.items ≡ l.fn.out.items ++ (34 ∷ flat_map escaped (take l.byte-index l.text))
