-- The line is the text, what is said behind it and a newline.
use Rattle.std.proofs.Common.{◌∙◌}
use Rattle.refspec_fetch.proofs.UpdateLemmas.{WritesHeading-of}
use Rattle.refspec_fetch.proofs.updates.write_heading.Goals as goal

pub returns : goal.returns
returns c = WritesHeading-of c.args.text.now c.as_bytes.result.now c.args.origin c.args.out.now.items
    c.write_field.new.out.items c.extend_from_slice.new.self.items c.push.new.self.items c.in_ok-write_field.ensures
    (c.as_bytes.ensures.value ∙ c.note_of.ensures) c.in_ok-extend_from_slice.ensures.items c.in_ok-push.ensures.items
