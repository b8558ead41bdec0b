-- The members of the object are the name and the sentence.
use Rattle.std.proofs.Common.{◌++◌, ap, ◌∙◌}
use Rattle.refspec_json.specs.Objects.{line_of, untracked_object}
use Rattle.refspec_io.proofs.ShownLemmas.{on_ok}
use Rattle.refspec_commands.proofs.tracking.report.write_untracked.Goals as goal

pub returns : goal.returns
returns c = on_ok c.write_line.result _ _ c.write_line.ensures (λ write. write ∙ ap
    (λ x. c.args.out.now.items ++ line_of (untracked_object x c.args.message.now)) (c.as_str.ensures.value ∙
    c.in_ok-name.ensures))
