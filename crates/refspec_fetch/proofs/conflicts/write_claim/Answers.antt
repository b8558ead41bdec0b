-- The line is a margin, the source, the text of its spec and what is said behind that.
use Rattle.std.proofs.Common.{◌∙◌}
use Rattle.refspec_fetch.specs.Origins.{note_of}
use Rattle.refspec_fetch.proofs.ConflictLemmas.{WritesClaim-of}
use Rattle.refspec_fetch.proofs.conflicts.write_claim.Goals as goal

pub returns : goal.returns
returns c = WritesClaim-of c.args.source.now c.args.text.now (note_of c.args.origin) c.as_bytes.result.now
    c.args.out.now.items c.extend_from_slice.new.self.items c.write_in_message.new.out.items
    c.extend_from_slice-2.new.self.items c.write_in_message-2.new.out.items c.extend_from_slice-3.new.self.items
    c.push.new.self.items c.in_ok-extend_from_slice.ensures.items c.in_ok-write_in_message.ensures
    c.in_ok-extend_from_slice-2.ensures.items c.in_ok-write_in_message-2.ensures
    (c.as_bytes.ensures.value ∙ c.note_of.ensures) c.in_ok-extend_from_slice-3.ensures.items c.in_ok-push.ensures.items
