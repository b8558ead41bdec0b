-- as many texts as names so far
use Rattle.std.proofs.Common.{◌≡◌, length}
use Rattle.refspec_fetch.proofs.missing.texts_of.Given as goal

abbrev pub invariant-loop-named : goal.invariant-loop-named
invariant-loop-named l = length l.texts.items ≡ l.named-index
