-- The line of the mapping, behind a cell of the remote.
use Rattle.refspec_io.proofs.ShownLemmas.{on_ok}
use Rattle.refspec_commands.proofs.RowsLemmas.{alone_line, remote_line}
use Rattle.refspec_commands.proofs.mappings.write_line.Goals as goal

pub returns-in-None : goal.returns-in-None
returns-in-None c = on_ok c.write_mapping.result _ _ c.write_mapping.ensures (alone_line c.args.row.now
    c.args.out.now.items c.write_mapping.new.out.items c.in-None.is)

pub returns-in_ok-write_cell-in-Some : goal.returns-in_ok-write_cell-in-Some
returns-in_ok-write_cell-in-Some c =
    on_ok c.write_mapping-in-Some.result _ _ c.write_mapping-in-Some.ensures (remote_line c.args.row.now _
    c.args.out.now.items c.write_cell.new.out.items c.write_mapping-in-Some.new.out.items c.in-Some.is
    c.in_ok-write_cell-in-Some.ensures)
