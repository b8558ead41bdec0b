-- The line is two cells, the text of the spec and a newline.
use Rattle.std.proofs.Common.{List, subst, ℕ}
use Rattle.refspec_io.specs.Shown.{WritesQuoted}
use Rattle.refspec_io.proofs.RowLemmas.{WritesLine-of}
use Rattle.refspec_commands.specs.Upstreams.{row_of}
use Rattle.refspec_commands.specs.UpstreamViews.{tracking_of}
use Rattle.refspec_commands.proofs.upstreams.report.write_cells.Goals as goal

pub returns : goal.returns
returns c =
    let last = subst (λ (t : List ℕ). WritesQuoted t c.write_cell-2.new.out.items c.write_field.new.out.items)
    c.text.ensures c.in_ok-write_field.ensures in
    WritesLine-of (row_of (tracking_of c.args.row.now)) c.args.out.now.items c.write_cell.new.out.items
    c.write_cell-2.new.out.items c.write_field.new.out.items c.push.new.self.items c.in_ok-write_cell.ensures
    c.in_ok-write_cell-2.ensures last c.in_ok-push.ensures.items
