use Rattle.gix_refspec_lint.proofs.{Common.{take, reading_of, name, ExcludesFrom, IsUnsound}, lemmas.RunLemmas.AreSoFar}

abbrev pub invariant-loop-shared :
    Rattle.gix_refspec_lint.proofs.exclusions.excludes_overlapping.Given.invariant-loop-shared
invariant-loop-shared l =
    AreSoFar (λ n. ¬ (ExcludesFrom (reading_of l.negative) (reading_of l.spec) (name n)))
    (IsUnsound (reading_of l.spec)) l.common.prefix.now l.common.suffix.now (take l.shared-index l.shared-items)
    l.run
