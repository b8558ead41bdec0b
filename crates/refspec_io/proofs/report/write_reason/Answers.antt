-- The line is its parts, in order.
use Rattle.std.proofs.Common.{◌∙◌}
use Rattle.refspec_io.proofs.MessageLemmas.{WritesReason-of}
use Rattle.refspec_io.proofs.report.write_reason.Goals as goal

pub returns : goal.returns
returns c = WritesReason-of c.args.text.now c.args.error.now _ _ _ _ _ _ _ _ c.in_ok-write.ensures
    c.in_ok-extend_from_slice.ensures.items c.in_ok-write_in_message.ensures c.in_ok-extend_from_slice-2.ensures.items
    (c.as_bytes.ensures.value ∙ c.explanation.ensures) c.in_ok-extend_from_slice-3.ensures.items
    c.in_ok-push.ensures.items
