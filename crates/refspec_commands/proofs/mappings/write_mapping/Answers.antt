-- The line is two cells, the text of the spec and a newline.
use Rattle.std.proofs.Common.{ℕ, List, codes, subst}
use Rattle.gix_refspec.specs.Views.Group.{mapped_of}
use Rattle.refspec_io.specs.Rows.{WritesCell, mapped_row}
use Rattle.refspec_io.proofs.RowLemmas.{WritesLine-of}
use Rattle.refspec_commands.proofs.mappings.write_mapping.Goals as goal

pub returns : goal.returns
returns c = WritesLine-of (mapped_row (codes "FETCH_HEAD") c.args.row.now.text.now (mapped_of
    c.args.row.now.mapping.now)) c.args.out.now.items c.write_cell.new.out.items c.write_source_cell.new.out.items
    c.write_field.new.out.items c.push.new.self.items (subst (λ (d : List ℕ). WritesCell d c.args.out.now.items
    c.write_cell.new.out.items) c.destination_or-destination.ensures c.in_ok-write_cell.ensures)
    c.in_ok-write_source_cell.ensures c.in_ok-write_field.ensures c.in_ok-push.ensures.items
