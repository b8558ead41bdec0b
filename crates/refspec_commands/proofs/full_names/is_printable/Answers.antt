-- The text is UTF-8 without control characters, or it isn't UTF-8.
use Rattle.refspec_commands.proofs.AdviceLemmas.{printable-other, printable-utf8}
use Rattle.refspec_commands.proofs.full_names.is_printable.Goals as goal

pub returns-in-Ok : goal.returns-in-Ok
returns-in-Ok c = printable-utf8 c.args.text.now c.in-Ok.text.now c.has_no_control.result c.in-Ok.ensures.cases.0
    c.in-Ok.ensures.cases.1 c.has_no_control.ensures

pub returns-in-Err : goal.returns-in-Err
returns-in-Err c = printable-other c.args.text.now c.in-Err.ensures.cases.0
