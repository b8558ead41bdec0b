use Rattle.gix_refspec_lint.proofs.Common.{◌≡◌, map, take, reading_of}
use Rattle.gix_refspec_lint.specs.Laws.Lint.{without}

abbrev pub invariant-loop-at : Rattle.gix_refspec_lint.proofs.removal.without.Given.invariant-loop-at
invariant-loop-at l = map reading_of l.rest.items ≡ without l.index (map reading_of (take l.at l.values))
