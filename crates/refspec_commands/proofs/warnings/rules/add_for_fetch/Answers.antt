-- Each warning is on the spec alone.
use Rattle.std.proofs.Common.{ap, inl, inr}
use Rattle.refspec_commands.specs.WarnedViews.{AreOthers, topic_name}
use Rattle.refspec_commands.proofs.WarnedLemmas.{others_more}
use Rattle.refspec_commands.proofs.warnings.rules.add_for_fetch.Goals.{then-is_completed+in_ok-warning+in_ok-explain_outside+in_ok-advise_outside+in_ok-push}
use Rattle.refspec_commands.proofs.warnings.rules.add_for_fetch.Goals.{else-is_completed}
use Rattle.refspec_commands.proofs.warnings.rules.add_for_fetch.Goals.{then-is_partial+then-ne+in_ok-partial_source+in_ok-push-2}
use Rattle.refspec_commands.proofs.warnings.rules.add_for_fetch.Goals.{else-is_partial}
use Rattle.refspec_commands.proofs.warnings.rules.add_for_fetch.Goals as goal

pub returns : goal.returns
returns c others =
    let first : AreOthers c.if-is_completed.found.items = elim c.if-is_completed.branch [
      | then-is_completed+in_ok-warning+in_ok-explain_outside+in_ok-advise_outside+in_ok-push w ↦ rw w.found-is
          (others_more _ _ _ w.in_ok-push.ensures.items others
          (inr (inl (ap topic_name w.in_ok-warning.ensures.topic))))
      | else-is_completed w ↦ rw w.found-is others
    ] in
    elim c.if-is_partial.branch [
      | then-is_partial+then-ne+in_ok-partial_source+in_ok-push-2 w ↦ rw w.found-is
          (others_more _ _ _ w.in_ok-push-2.ensures.items first
          (inr (inr (ap topic_name w.in_ok-partial_source.ensures))))
      | else-is_partial w ↦ rw w.found-is first
    ]
