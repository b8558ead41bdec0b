use Rattle.gix_refspec_plan.proofs.Common.{All, take, bstring_bytes, ExcludeName}

abbrev pub invariant-loop-candidate :
    Rattle.gix_refspec_plan.proofs.stale.excluded_candidate.Given.invariant-loop-candidate
invariant-loop-candidate l = All (λ b. ¬ (ExcludeName l.exclusions (bstring_bytes b)))
    (take l.candidate-index l.candidate-items)
