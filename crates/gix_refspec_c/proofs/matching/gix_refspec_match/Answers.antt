-- The slices get the mappings that are kept, and the outcome is the number of the result.
use Rattle.std.proofs.Common.{inl, inr, map, refl}
use Rattle.std.proofs.lemmas.Result.{on_ok_weaker}
use Rattle.gix_refspec_c.specs.Group.{bytes_of}
use Rattle.gix_refspec_c.specs.Kept.{entries_of}
use Rattle.gix_refspec_c.specs.Matching.{AreMatched, AreUnmatched, direction_code}
use Rattle.gix_refspec_c.specs.Outcome.{fails}
use Rattle.gix_refspec_c.proofs.MatchingLemmas.{lacks_all}
use Rattle.gix_refspec_c.proofs.OutcomeLemmas.{answered}
use Rattle.gix_refspec_c.proofs.matching.gix_refspec_match.Goals as goal

pub returns-in-Err : goal.returns-in-Err
returns-in-Err c = fails c.in-Some.direction c.in-Some.ensures c.in-Err.failure c.number-in-Err.ensures
    (inr (c.in-Err.ensures.err, refl))

pub returns-in-Ok : goal.returns-in-Ok
returns-in-Ok c =
    let direction = c.in-Some.direction in
    let es = entries_of c.in-Ok.kept in
    let is = c.in-Ok.ensures.ok in
    let write = on_ok_weaker c.write_kept.result (λ write. (es, is, write)) c.write_kept.ensures.ok in
    let none = lacks_all (AreMatched direction (map bytes_of c.args.texts.now) (map bytes_of c.args.names.now))
    (AreUnmatched direction (map bytes_of c.args.texts.now)) es _ _ c.write_kept.result is (inl tt)
    c.write_kept.ensures.err in
    answered direction_code c.args.direction _ _ _ direction c.write_kept.result c.outcome_of.result c.in-Some.ensures
    c.outcome_of.ensures write none
