use Rattle.gix_refspec_text.proofs.Common.{◌-◌, ◌≤◌, length, IsScanned}
use Rattle.gix_refspec_text.proofs.name.scanned.Given as goal

-- no fault so far with letters for the stars, and at least one byte was scanned
abbrev pub invariant-loop-index : goal.invariant-loop-index
invariant-loop-index l = IsScanned l.text l.index l.starred × (1 ≤ l.index) × (l.index ≤ length l.text)

abbrev pub decreases-loop-index : goal.decreases-loop-index
decreases-loop-index l = length l.text - l.index
