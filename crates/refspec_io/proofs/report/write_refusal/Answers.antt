-- The other lines follow the first.
use Rattle.refspec_io.proofs.MessageLemmas.{WritesRefusal-of}
use Rattle.refspec_io.proofs.ShownLemmas.{on_ok}
use Rattle.refspec_io.proofs.report.write_refusal.Goals as goal

pub returns : goal.returns
returns c = on_ok c.write_details.result _ _ c.write_details.ensures
    (WritesRefusal-of c.args.text.now c.args.error.now c.args.out.now.items _ _ c.in_ok-write_reason.ensures)
