-- the options of the letters so far are added
use Rattle.std.proofs.Common.{take}
use Rattle.refspec_request.proofs.ArgumentLemmas.{AddsLetters}
use Rattle.refspec_request.proofs.arguments.add_letters.Given as goal

abbrev pub invariant-loop-letter : goal.invariant-loop-letter
invariant-loop-letter l = AddsLetters (take l.letter-index l.letters) l.fn.switches.items l.switches.items
