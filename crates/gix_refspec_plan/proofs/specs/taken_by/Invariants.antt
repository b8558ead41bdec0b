use Rattle.gix_refspec_plan.proofs.Common.{map, take, mapped_of, ref_of, IsMadeFrom}
use Rattle.gix_refspec_plan.proofs.lemmas.plan.SpecLemmas.{Indexes, Refs}

abbrev pub invariant-loop-index : Rattle.gix_refspec_plan.proofs.specs.taken_by.Given.invariant-loop-index
invariant-loop-index l =
    IsMadeFrom (Indexes (map mapped_of l.mappings.items)) 0 (map ref_of (take l.index l.items)) l.taken.indexes.items
    × IsMadeFrom (Refs (map mapped_of l.mappings.items)) 0 (map ref_of (take l.index l.items))
    (map ref_of l.taken.items.items)
