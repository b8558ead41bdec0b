use Rattle.gix_refspec_match.proofs.Common.{Some, arith}
use Rattle.gix_refspec_match.proofs.lemmas.hits.SingleLemmas.{destination_matched, destination_unmatched}
use Rattle.gix_refspec_match.proofs.lemmas.hits.SingleLemmas.{no_destination, renamed, unmapped_back}
use Rattle.gix_refspec_match.proofs.single.RefSpecRefMapName.map_back.Goals as goal

pub returns-in_default-clause-ok : goal.returns-in_default-clause-ok
returns-in_default-clause-ok c = unmapped_back _ _ c.in_default.ensures

pub returns-in_default-destination-clause-ok : goal.returns-in_default-destination-clause-ok
returns-in_default-destination-clause-ok c = no_destination _ _ c.in-Some.sides c.in-Some.ensures
    c.in_default-destination.is

pub returns-in_default-match_name-clause-ok : goal.returns-in_default-match_name-clause-ok
returns-in_default-match_name-clause-ok c =
    destination_unmatched _ _ c.in-Some.sides c.in-Some.ensures c.in-Some-destination.destination
    c.in-Some-destination.is (rw c.as_bytes.ensures at c.in_default-match_name.ensures)

pub returns-clause-ok : goal.returns-clause-ok
returns-clause-ok c =
    destination_matched _ _ c.in-Some.sides c.in-Some.ensures c.in-Some-destination.destination
    c.in-Some-destination.is _ _ (rw c.as_bytes.ensures at c.in-Some-match_name.ensures)
    (rw c.in-Some-2.is at c.in_ok-source.ensures.value)

pub returns-in_err-source-clause-memory : goal.returns-in_err-source-clause-memory
returns-in_err-source-clause-memory c = let made =
    renamed _ (Some c.in-Some.sides.source) c.in-Some.ensures.source c.in_err-source.ensures.memory in
    grind (arith, made)
