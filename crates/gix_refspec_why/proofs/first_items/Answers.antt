use Rattle.gix_refspec_why.proofs.Common.{◌∙◌, sym}
use Rattle.gix_refspec_why.proofs.lemmas.NameLemmas.{named_first, named_same, unknown_at}
use Rattle.gix_refspec_why.proofs.first_items.Goals as goal

pub loop-index-preserved : goal.loop-index-preserved
loop-index-preserved c =
    let items = c.args.items.now in
    let i = c.loop-index.index in
    elim c.if-not-contains_key.branch [
      | goal.then-not-contains_key+in_ok-insert w ↦
          rw w.firsts-is (named_first items i _ c.loop-index-test.true c.loop-index.firsts w.insert.new.self
          c.as_bytes-name.result
          c.as_bytes-name.ensures (unknown_at _ (sym c.contains_key.ensures ∙ w.if-not-contains_key.true))
          c.loop-index.invariant
          w.in_ok-insert.ensures.updates)
      | goal.else-not-contains_key w ↦
          rw w.firsts-is (named_same items i _ c.loop-index-test.true c.loop-index.firsts c.as_bytes-name.result.now
          c.as_bytes-name.ensures (sym c.contains_key.ensures ∙ w.if-not-contains_key.false) c.loop-index.invariant)
    ]
