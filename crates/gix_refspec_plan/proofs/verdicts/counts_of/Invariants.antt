use Rattle.gix_refspec_plan.proofs.Common.{map, take, mapped_of, CountDestinations}

abbrev pub invariant-loop-mapping : Rattle.gix_refspec_plan.proofs.verdicts.counts_of.Given.invariant-loop-mapping
invariant-loop-mapping l = CountDestinations (map mapped_of (take l.mapping-index l.mappings)) l.counts
