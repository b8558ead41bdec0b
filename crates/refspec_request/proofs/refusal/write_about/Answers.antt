-- The three pieces, in order.
use Rattle.refspec_request.proofs.RefusalLemmas.{Writes-between}
use Rattle.refspec_request.proofs.refusal.write_about.Goals as goal

pub returns : goal.returns
returns c = Writes-between c.args.before.now c.args.name.now c.args.after.now _ _ _ _ _ _
    c.in_ok-extend_from_slice.ensures.items c.as_bytes.ensures.value c.in_ok-write_in_message.ensures
    c.in_ok-extend_from_slice-2.ensures.items c.as_bytes-2.ensures.value
