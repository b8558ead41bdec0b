use Rattle.gix_refspec_plan.proofs.Common.{map, take, mapped_of, IsMadeFrom, IsPlannedBesides, asked_of, planned_of}

abbrev pub invariant-loop-index : Rattle.gix_refspec_plan.proofs.verdicts.second_updates.Given.invariant-loop-index
invariant-loop-index l = IsMadeFrom (λ k m p. IsPlannedBesides (map asked_of l.specs) l.indexes (map mapped_of l.firsts)
    (map mapped_of l.mappings) m p) 0 (map mapped_of (take l.index l.mappings)) (map planned_of l.updates.items)
