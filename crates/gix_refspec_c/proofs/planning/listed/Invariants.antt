-- the listing is that of the updates so far; and then also of the missing sources so far
use Rattle.std.proofs.Common.{◌++◌, map, take}
use Rattle.gix_refspec_plan.specs.Views.Plan.{planned_of, wish_of}
use Rattle.gix_refspec_c.specs.Mapping.{Describes}
use Rattle.gix_refspec_c.specs.Planning.{missing_entry, update_entry}
use Rattle.gix_refspec_c.proofs.planning.listed.Given as goal

abbrev pub invariant-loop-update : goal.invariant-loop-update
invariant-loop-update l =
    Describes (map (update_entry (wish_of l.wish)) (map planned_of (take l.update-index l.plan.updates.items)))
    l.listing.mappings.items l.listing.text.items

abbrev pub invariant-loop-origin : goal.invariant-loop-origin
invariant-loop-origin l = Describes (map (update_entry (wish_of l.wish)) (map planned_of l.plan.updates.items)
    ++ map missing_entry (take l.origin-index l.plan.missing.items)) l.listing.mappings.items l.listing.text.items
