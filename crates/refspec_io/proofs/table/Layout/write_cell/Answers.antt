-- The cell is the field, and two or more spaces.
use Rattle.std.proofs.Common.{◌≤◌, rules}
use Rattle.refspec_io.proofs.RowLemmas.{WritesCell-of}
use Rattle.refspec_io.proofs.ShownLemmas.{on_ok}
use Rattle.refspec_io.proofs.table.Layout.write_cell.Goals as goal

pub returns : goal.returns
returns c =
    let enough : 2 ≤ c.saturating_add.result = search rules in
    on_ok c.write_spaces.result _ _ c.write_spaces.ensures
    (WritesCell-of c.args.field.now c.args.out.now.items c.write_field.new.out.items c.write_spaces.new.out.items
    c.saturating_add.result enough c.in_ok-write_field.ensures)
