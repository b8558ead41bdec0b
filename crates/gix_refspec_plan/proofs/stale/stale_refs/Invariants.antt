use Rattle.gix_refspec_plan.proofs.Common.{map, take, reading_of, IsMadeFrom, ref_of, found_of}
use Rattle.gix_refspec_plan.proofs.lemmas.stale.StateLemmas.{Tells}

abbrev pub invariant-loop-item_index : Rattle.gix_refspec_plan.proofs.stale.stale_refs.Given.invariant-loop-item_index
invariant-loop-item_index l =
    IsMadeFrom (Tells (map reading_of l.fn.specs) (map ref_of l.fn.remote) (map ref_of l.local)) 0
    (map ref_of (take l.item_index l.local)) (map found_of l.stale.items)
