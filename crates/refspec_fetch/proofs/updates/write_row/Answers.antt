-- The line is two cells, and the text of the spec.
use Rattle.std.proofs.Common.{List, ℕ, subst}
use Rattle.gix_refspec_plan.specs.Views.Plan.{planned_of}
use Rattle.refspec_io.specs.Rows.{WritesCell}
use Rattle.refspec_io.proofs.ShownLemmas.{on_ok}
use Rattle.refspec_fetch.proofs.UpdateLemmas.{WritesUpdateLine-of}
use Rattle.refspec_fetch.proofs.updates.write_row.Goals as goal

pub returns : goal.returns
returns c = on_ok c.write_heading.result _ _ c.write_heading.ensures
    (WritesUpdateLine-of c.args.text.now (planned_of c.args.update.now) c.args.out.now.items
    c.write_source_cell.new.out.items c.write_cell.new.out.items c.write_heading.new.out.items
    c.in_ok-write_source_cell.ensures
    (subst (λ (d : List ℕ). WritesCell d c.write_source_cell.new.out.items c.write_cell.new.out.items)
    c.destination_or-destination.ensures c.in_ok-write_cell.ensures))
