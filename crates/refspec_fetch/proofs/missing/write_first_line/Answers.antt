-- The line is the text, what is said behind it and a sentence.
use Rattle.std.proofs.Common.{◌∙◌}
use Rattle.refspec_fetch.proofs.MissingLemmas.{WritesMissing-of}
use Rattle.refspec_fetch.proofs.missing.write_first_line.Goals as goal

pub returns : goal.returns
returns c = WritesMissing-of c.args.text.now c.args.origin c.as_bytes.result.now c.as_bytes-2.result.now
    c.args.out.now.items c.extend_from_slice.new.self.items c.write_in_message.new.out.items
    c.extend_from_slice-2.new.self.items c.extend_from_slice-3.new.self.items c.extend_from_slice-4.new.self.items
    c.push.new.self.items c.in_ok-extend_from_slice.ensures.items c.in_ok-write_in_message.ensures
    (c.as_bytes.ensures.value ∙ c.note_of.ensures) c.in_ok-extend_from_slice-2.ensures.items
    c.in_ok-extend_from_slice-3.ensures.items c.as_bytes-2.ensures.value c.in_ok-extend_from_slice-4.ensures.items
    c.in_ok-push.ensures.items
