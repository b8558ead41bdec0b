use Rattle.gix_refspec_plan.proofs.lemmas.plan.CoveredLemmas.{AreCopied}

abbrev pub invariant-loop-index : Rattle.gix_refspec_plan.proofs.stale.written_flags.Given.invariant-loop-index
invariant-loop-index l = AreCopied l.all.items l.before l.index l.flags.items
