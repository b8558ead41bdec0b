-- A line was appended.
use Rattle.refspec_io.proofs.ShownLemmas.{on_ok}
use Rattle.refspec_io.proofs.lacking.write_missing.Goals as goal

pub returns : goal.returns
returns c = on_ok c.write_line.result _ _ c.write_line.ensures (λ write. (_, write))
