use Rattle.gix_refspec_plan.proofs.Common.{List, take, bstr_bytes, Reading, AreWritersOf}
use Rattle.gix_refspec_plan.proofs.lemmas.stale.PatternLemmas.{HasStateAmong}

abbrev pub invariant-loop-pattern : Rattle.gix_refspec_plan.proofs.stale.Writers.state_of.Given.invariant-loop-pattern
invariant-loop-pattern l = (g : List Reading) → AreWritersOf g l.self → HasStateAmong l.self.exclusions g
    (take l.pattern-index l.pattern-items) (bstr_bytes l.name) l.state
