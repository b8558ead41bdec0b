-- The line is a cell, the destination and a newline.
use Rattle.std.proofs.Common.{List, ℕ, subst}
use Rattle.gix_refspec_plan.specs.Views.Plan.{planned_of}
use Rattle.refspec_io.specs.Shown.{WritesQuoted}
use Rattle.refspec_fetch.proofs.GroupLemmas.{WritesShort-of}
use Rattle.refspec_fetch.proofs.groups.write_short.Goals as goal

pub returns : goal.returns
returns c = WritesShort-of (planned_of c.args.update.now) c.args.out.now.items c.write_source_cell.new.out.items
    c.write_field.new.out.items c.push.new.self.items c.in_ok-write_source_cell.ensures
    (subst (λ (d : List ℕ). WritesQuoted d c.write_source_cell.new.out.items c.write_field.new.out.items)
    c.destination_or-destination.ensures c.in_ok-write_field.ensures) c.in_ok-push.ensures.items
