use Rattle.gix_refspec_text.proofs.Common.{IsScanned}
use Rattle.gix_refspec_text.proofs.name.scanned_to.Given as goal

-- no fault so far with letters for the stars, and at most one star
abbrev pub invariant-loop-index : goal.invariant-loop-index
invariant-loop-index l = IsScanned l.text l.index l.starred
