use Rattle.gix_refspec_lint.proofs.Common.{◌≡◌, map, take}
use Rattle.gix_refspec_lint.specs.Private.Alike.{second_of}
use Rattle.gix_refspec_lint.specs.Views.Lint.{nesting_of}
use Rattle.gix_refspec_lint.specs.declared.PossibleDirectoryConflict.{PossibleDirectoryConflict}

abbrev pub invariant-loop-conflict : Rattle.gix_refspec_lint.proofs.nestings.seconds_of.Given.invariant-loop-conflict
invariant-loop-conflict l = l.seconds.items
    ≡ map (λ (c : PossibleDirectoryConflict). second_of (nesting_of c)) (take l.conflict-index l.conflicts)
