-- One more mapping, with a destination or without.
use Rattle.std.proofs.Common.{Some, map, take, sym, ap, ◌∙◌}
use Rattle.gix_refspec_c.specs.Validating.{mapped_in}
use Rattle.gix_refspec_c.proofs.ValidatingLemmas.{claims_more, claims_same, count_before}
use Rattle.gix_refspec_c.proofs.validating.claims_of.Goals as goal

pub loop-index-preserved : goal.loop-index-preserved
loop-index-preserved c =
    let pairs = c.args.pairs.now in
    let i = c.loop-index.index in
    elim c.match-destination_of.branch [
      | goal.in-Some+in_ok-insert w ↦
          let goes = sym w.in-Some.ensures ∙ ap Some (sym w.as_bytes-destination.ensures) in
          rw w.claims-is (claims_more pairs i _ c.loop-index-test.true c.loop-index.claims w.insert.new.self
          w.as_bytes-destination.result w.claim_with-claim.result goes
          (w.claim_with-claim.ensures (map mapped_in (take i pairs)) (count_before pairs i c.loop-index-test.true)
          c.loop-index.invariant goes) c.loop-index.invariant w.in_ok-insert.ensures.updates)
      | goal.in_default w ↦
          rw w.claims-is (claims_same pairs i _ c.loop-index-test.true c.loop-index.claims (sym w.in_default.ensures)
          c.loop-index.invariant)
    ]
