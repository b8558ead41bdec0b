use Rattle.std.proofs.Common.{All, take}
use Rattle.gix_refspec_why.proofs.lemmas.CandidateLemmas.{IsPassed}

abbrev pub invariant-loop-candidate :
    Rattle.gix_refspec_why.proofs.sources.earlier_candidate.Given.invariant-loop-candidate
invariant-loop-candidate l = All (IsPassed l.name l.firsts) (take l.candidate-index l.candidate-items)
