-- The members of the object are the spec and the sentence.
use Rattle.std.proofs.Common.{◌++◌, ap, codes, ◌∙◌}
use Rattle.refspec_json.specs.Objects.{line_of, noted_object}
use Rattle.refspec_io.proofs.ShownLemmas.{on_ok}
use Rattle.refspec_commands.proofs.prefixes.report.write_reason.Goals as goal

pub returns : goal.returns
returns c = on_ok c.write_line.result _ _ c.write_line.ensures
    (λ write. (
      c.args.message.now,
      write
          ∙ ap (λ x. c.args.out.now.items ++ line_of (noted_object (codes "all") x c.args.message.now))
          (c.as_str.ensures.value ∙ c.in_ok-shown.ensures),
    ))
