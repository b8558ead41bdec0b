-- One more update is listed, or one more spec whose source is missing.
use Rattle.std.proofs.Common.{map}
use Rattle.gix_refspec_plan.specs.Views.Plan.{planned_of, wish_of}
use Rattle.gix_refspec_c.specs.Planning.{missing_entry, update_entry}
use Rattle.gix_refspec_c.proofs.MatchingLemmas.{describes_more, entries_more, entries_more_behind}
use Rattle.gix_refspec_c.proofs.planning.listed.Goals as goal

pub loop-update-preserved : goal.loop-update-preserved
loop-update-preserved c =
    let entry = update_entry (wish_of c.args.wish.now) in
    describes_more _ _ (entry (planned_of c.update-item.result)) c.loop-update.listing.mappings.items
    c.add_update.new.listing.mappings.items c.loop-update.listing.text.items c.add_update.new.listing.text.items
    c.loop-update.invariant
    (entries_more entry planned_of c.args.plan.now.updates.items c.deref-update-items.result.now
    c.loop-update.update-index c.update-item.result c.deref-update-items.ensures.value c.loop-update-test.true
    c.update-item.is)
    c.in_ok-add_update.ensures.text c.in_ok-add_update.ensures.described

pub loop-origin-preserved : goal.loop-origin-preserved
loop-origin-preserved c =
    describes_more _ _ _ c.loop-origin.listing.mappings.items c.add_missing.new.listing.mappings.items
    c.loop-origin.listing.text.items c.add_missing.new.listing.text.items c.loop-origin.invariant
    (entries_more_behind (map (update_entry (wish_of c.args.wish.now)) (map planned_of c.args.plan.now.updates.items))
    missing_entry c.args.plan.now.missing.items c.deref-origin-items.result.now c.loop-origin.origin-index _
    c.deref-origin-items.ensures.value c.loop-origin-test.true)
    c.in_ok-add_missing.ensures.text c.in_ok-add_missing.ensures.described
