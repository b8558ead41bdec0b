use Rattle.std.proofs.Common.{◌≡◌, drop}
use Rattle.refspec_request.specs.Booleans.{after_blanks}
use Rattle.refspec_request.proofs.booleans.skip_blanks.Given as goal

-- only white space so far
abbrev pub invariant-loop-index : goal.invariant-loop-index
invariant-loop-index l = after_blanks l.text ≡ after_blanks (drop l.index l.text)
