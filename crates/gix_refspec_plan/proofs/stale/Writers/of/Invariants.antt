use Rattle.gix_refspec_plan.proofs.{Common.{map, take, reading_of}, lemmas.stale.PatternLemmas.AreWritersSoFar}

abbrev pub invariant-loop-index : Rattle.gix_refspec_plan.proofs.stale.Writers.of.Given.invariant-loop-index
invariant-loop-index l = AreWritersSoFar (map reading_of l.specs) (map reading_of (take l.index l.specs)) l.writers
