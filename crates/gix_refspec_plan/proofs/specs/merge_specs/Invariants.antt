use Rattle.gix_refspec_plan.proofs.Common.{map, take, bstr_bytes, IsMadeFrom, mapped_of, asked_of}
use Rattle.gix_refspec_plan.proofs.lemmas.plan.SpecLemmas.{Merges}

abbrev pub invariant-loop-index : Rattle.gix_refspec_plan.proofs.specs.merge_specs.Given.invariant-loop-index
invariant-loop-index l = IsMadeFrom (Merges (map bstr_bytes l.merges) (map mapped_of l.fn.configured)) 0
    (map bstr_bytes (take l.index l.merges)) (map asked_of l.made.items)
