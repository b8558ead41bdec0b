use Rattle.gix_refspec_match.proofs.Common.{map, take, kind_of_side, ref_of}
use Rattle.gix_refspec_match.proofs.lemmas.index.PlacedLemmas.{FoundSoFar, MatchedSoFar}
use Rattle.gix_refspec_match.proofs.hits.add_hits.Given as goal

abbrev pub invariant-loop-index : goal.invariant-loop-index
invariant-loop-index l = MatchedSoFar (map ref_of l.items) (kind_of_side l.needle) l.matcher
    (take l.index-index l.indexes) l.fn.hits.items l.hits.items

abbrev pub invariant-loop-item_index : goal.invariant-loop-item_index
invariant-loop-item_index l = FoundSoFar l.fn.candidates (map ref_of l.items) (kind_of_side l.needle) l.matcher
    (map ref_of (take l.item_index l.items)) l.fn.hits.items l.hits.items
