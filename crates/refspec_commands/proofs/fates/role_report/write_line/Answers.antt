-- The line is a cell, a sentence and a newline.
use Rattle.refspec_commands.specs.LocalViews.{part_of}
use Rattle.refspec_commands.proofs.LocalLemmas.{part_line}
use Rattle.refspec_commands.proofs.fates.role_report.write_line.Goals as goal

pub returns : goal.returns
returns c = part_line (part_of c.args.part.now) c.args.part.now.sentence.now c.args.out.now.items
    c.write_cell.new.out.items c.extend_from_slice.new.self.items c.push.new.self.items c.in_ok-write_cell.ensures
    c.in_ok-extend_from_slice.ensures.items c.in_ok-push.ensures.items
