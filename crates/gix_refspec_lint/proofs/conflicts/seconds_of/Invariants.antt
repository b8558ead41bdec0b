use Rattle.gix_refspec_lint.proofs.Common.{◌≡◌, map, take}
use Rattle.gix_refspec_lint.specs.declared.PossibleConflict.{PossibleConflict}

abbrev pub invariant-loop-conflict : Rattle.gix_refspec_lint.proofs.conflicts.seconds_of.Given.invariant-loop-conflict
invariant-loop-conflict l = l.seconds.items
    ≡ map (λ (c : PossibleConflict). c.second_spec) (take l.conflict-index l.conflicts)
