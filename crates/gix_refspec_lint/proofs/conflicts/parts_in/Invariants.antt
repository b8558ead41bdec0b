use Rattle.gix_refspec_lint.proofs.Common.{take, HaveParts}

abbrev pub invariant-loop-spec : Rattle.gix_refspec_lint.proofs.conflicts.parts_in.Given.invariant-loop-spec
invariant-loop-spec l = HaveParts (take l.spec-index l.specs) l.parts.items
