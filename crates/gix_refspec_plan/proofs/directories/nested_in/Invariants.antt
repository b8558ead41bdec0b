use Rattle.gix_refspec_plan.proofs.lemmas.plan.DirectoryLemmas.{HavePassed}

abbrev pub invariant-loop-at : Rattle.gix_refspec_plan.proofs.directories.nested_in.Given.invariant-loop-at
invariant-loop-at l = HavePassed l.names l.at l.upper l.nested
