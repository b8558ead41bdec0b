-- whether one of the verdicts so far is that on a mapping in conflict
use Rattle.std.proofs.Common.{◌≡◌, take}
use Rattle.std.specs.List.{list_any}
use Rattle.gix_refspec_c.specs.Validating.{tells_conflict}
use Rattle.gix_refspec_c.proofs.validating.has_conflict.Given as goal

abbrev pub invariant-loop-verdict : goal.invariant-loop-verdict
invariant-loop-verdict l = l.any ≡ list_any tells_conflict (take l.verdict-index l.verdicts)
