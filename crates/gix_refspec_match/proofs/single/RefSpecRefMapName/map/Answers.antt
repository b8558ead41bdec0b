use Rattle.gix_refspec_match.proofs.Common.{arith}
use Rattle.gix_refspec_match.proofs.lemmas.hits.SingleLemmas.{renamed, source_matched, source_unmatched, unmapped}
use Rattle.gix_refspec_match.proofs.single.RefSpecRefMapName.map.Goals as goal

pub returns-in_default-clause-ok : goal.returns-in_default-clause-ok
returns-in_default-clause-ok c = unmapped _ _ c.in_default.ensures

pub returns-in_default-match_name-clause-ok : goal.returns-in_default-match_name-clause-ok
returns-in_default-match_name-clause-ok c = source_unmatched _ _ c.in-Some.sides c.in-Some.ensures
    (rw c.as_bytes.ensures at c.in_default-match_name.ensures)

pub returns-clause-ok : goal.returns-clause-ok
returns-clause-ok c = source_matched _ _ c.in-Some.sides c.in-Some.ensures _ _
    (rw c.as_bytes.ensures at c.in-Some-match_name.ensures) c.in_ok-filled.ensures.value

pub returns-in_err-filled-clause-memory : goal.returns-in_err-filled-clause-memory
returns-in_err-filled-clause-memory c = let made =
    renamed _ _ c.in-Some.ensures.destination c.in_err-filled.ensures.memory in grind (arith, made)
