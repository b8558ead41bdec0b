use Rattle.gix_refspec_text.proofs.Common.{◌∷◌, take, slash, IsClean}
use Rattle.gix_refspec_text.proofs.name.found_fault.Given as goal

abbrev pub invariant-loop-index : goal.invariant-loop-index
invariant-loop-index l = IsClean (slash ∷ take l.index l.text)
