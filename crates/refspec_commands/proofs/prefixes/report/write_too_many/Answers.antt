-- The message of the object is the sentence.
use Rattle.refspec_io.proofs.ShownLemmas.{on_ok}
use Rattle.refspec_commands.proofs.prefixes.report.write_too_many.Goals as goal

pub returns : goal.returns
returns c = on_ok c.write_line.result _ _ c.write_line.ensures (λ write. (c.args.message.now, write))
