-- Each remote adds the names that it writes.
use Rattle.std.proofs.Common.{List, take, take_all, map, ◌++◌, ap, sym, subst, ◌∙◌}
use Rattle.gix_refspec.specs.Views.Group.{mapped_of}
use Rattle.refspec_commands.specs.declared.tracking.answer.Tracked.{Tracked}
use Rattle.refspec_commands.specs.Answer.{mappings_in}
use Rattle.refspec_commands.specs.Track.{AreWritten}
use Rattle.refspec_commands.proofs.AnswerLemmas.{mappings_in-more}
use Rattle.refspec_commands.proofs.TrackLemmas.{AreWritten-start}
use Rattle.refspec_commands.proofs.tracking.answer.written_by.Goals as goal

pub loop-remote-init : goal.loop-remote-init
loop-remote-init c = AreWritten-start c.new-written.result c.new-written.ensures.empty

pub loop-remote-preserved : goal.loop-remote-preserved
loop-remote-preserved c =
    let i = c.loop-remote.remote-index in
    let ts = c.args.remotes.now in
    let same = ap (map mapped_of) (c.as_slice.ensures.value ∙ ap (λ (t : Tracked). t.mappings.items) c.remote-item.is)
    in
    subst (AreWritten c.add_written.new.written) (ap (λ l. mappings_in (take i ts) ++ l) same ∙ sym (mappings_in-more ts
    i c.remote-item.result c.loop-remote-test.true)) (c.in_ok-add_written.ensures (mappings_in (take i ts))
    c.loop-remote.invariant)

pub returns : goal.returns
returns c = subst (λ (l : List Tracked). AreWritten c.loop-remote.written (mappings_in l)) (take_all
    c.loop-remote.remote-index c.args.remotes.now c.loop-remote-test.false) c.loop-remote.invariant
