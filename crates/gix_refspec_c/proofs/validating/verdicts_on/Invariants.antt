-- the verdicts so far are those on the mappings so far
use Rattle.std.proofs.Common.{map, take}
use Rattle.std.specs.List.{AllZip}
use Rattle.gix_refspec_c.specs.Validating.{IsVerdict, mapped_in}
use Rattle.gix_refspec_c.proofs.validating.verdicts_on.Given as goal

abbrev pub invariant-loop-pair : goal.invariant-loop-pair
invariant-loop-pair l = AllZip (IsVerdict (map mapped_in l.pairs)) (map mapped_in (take l.pair-index l.pairs))
    l.verdicts.items
