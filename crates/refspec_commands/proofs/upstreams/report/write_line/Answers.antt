-- The cells, behind that of the branch.
use Rattle.std.proofs.Common.{ap, option_map}
use Rattle.refspec_io.proofs.ShownLemmas.{on_ok}
use Rattle.refspec_commands.specs.UpstreamViews.{tracking_of}
use Rattle.refspec_commands.proofs.UpstreamLemmas.{alone_line, named_line}
use Rattle.refspec_commands.proofs.upstreams.report.write_line.Goals as goal

pub returns-in-None : goal.returns-in-None
returns-in-None c = on_ok c.write_cells.result _ _ c.write_cells.ensures (alone_line (tracking_of c.args.row.now)
    c.args.out.now.items c.write_cells.new.out.items (ap (option_map (λ n. n.now)) c.in-None.is))

pub returns-in_ok-write_cell-in-Some : goal.returns-in_ok-write_cell-in-Some
returns-in_ok-write_cell-in-Some c =
    on_ok c.write_cells-in-Some.result _ _ c.write_cells-in-Some.ensures (named_line (tracking_of c.args.row.now) _
    c.args.out.now.items c.write_cell.new.out.items c.write_cells-in-Some.new.out.items
    (ap (option_map (λ n. n.now)) c.in-Some.is) c.in_ok-write_cell-in-Some.ensures)
