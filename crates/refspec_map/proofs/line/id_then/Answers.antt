-- The first space ends the only word that can be the id.
use Rattle.refspec_map.proofs.LineLemmas.{no_IsIdThen, no_IsIdThen-word}
use Rattle.refspec_map.proofs.line.id_then.Goals as goal

pub returns-in_err-word : goal.returns-in_err-word
returns-in_err-word c = rw c.from_residual.ensures (no_IsIdThen c.args.text.now c.in_err-word.ensures)

pub returns-in_err-id : goal.returns-in_err-id
returns-in_err-id c = rw c.from_residual-in_err-id.ensures
    (no_IsIdThen-word c.args.text.now c.in_ok-word.word.now c.in_ok-word.rest.now c.in_ok-word.ensures.0
    c.in_ok-word.ensures.1 c.in_err-id.ensures)
