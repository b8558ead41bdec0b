use Rattle.gix_refspec.proofs.Common.{map, sym, ◌∙◌, arith, false≢true, length-map, mapped_of}
use Rattle.gix_refspec.proofs.lemmas.validate.UpdateLemmas.{updates_more, updates_same, updates_sorted, goes_nowhere}
use Rattle.gix_refspec.proofs.lemmas.validate.UpdateLemmas.{goes_to_name}
use Rattle.gix_refspec.proofs.match_group.validate.conflicts.updates_in_order.Goals.{then-not-is_flagged+in_ok-push}
use Rattle.gix_refspec.proofs.match_group.validate.conflicts.updates_in_order.Goals.{else-not-is_flagged}
use Rattle.gix_refspec.proofs.match_group.validate.conflicts.updates_in_order.Goals as goal

pub loop-index-preserved-in_default : goal.loop-index-preserved-in_default
loop-index-preserved-in_default c = updates_same (map mapped_of c.args.mappings.now) c.args.flags.now c.loop-index.index
    c.loop-index.updates.items
    (λ d goes unflagged. goes_nowhere c.args.mappings.now c.loop-index.index c.index-mappings-index.result d
    c.loop-index-test.true c.index-mappings-index.is c.in_default.is goes) c.loop-index.invariant

pub loop-index-preserved : goal.loop-index-preserved
loop-index-preserved c =
    let p = c.loop-index.index in
    let cs = c.loop-index.updates.items in
    elim c.if-not-is_flagged.branch [
      | then-not-is_flagged+in_ok-push w ↦
          let goes = goes_to_name c.args.mappings.now p c.index-mappings-index.result c.in-Some.name
          c.loop-index-test.true c.index-mappings-index.is c.in-Some.is in
          rw w.updates-is
          (updates_more _ _ cs w.push.new.self.items (record { destination = w.as_bytes.result; index = p })
          w.in_ok-push.ensures.items (rw (w.as_bytes.ensures ∙ w.as_bstr.ensures) goes)
          (λ flagged. false≢true (sym w.if-not-is_flagged.true ∙ c.is_flagged.ensures.1 flagged))
          c.loop-index.invariant)
      | else-not-is_flagged w ↦
          rw w.updates-is
          (updates_same _ _ p cs (λ d goes unflagged. unflagged (c.is_flagged.ensures.0 w.if-not-is_flagged.false))
          c.loop-index.invariant)
    ]

pub returns : goal.returns
returns c = updates_sorted (map mapped_of c.args.mappings.now) c.args.flags.now c.loop-index.index
    c.loop-index.updates.items c.sort_unstable.new.self.items (omega (arith, length-map c.args.mappings.now mapped_of))
    c.loop-index.invariant c.sort_unstable.ensures.permutation c.sort_unstable.ensures.sorted
