-- The members of the object are the spec and the sentence.
use Rattle.std.proofs.Common.{ℕ, List, ◌++◌, ap, codes, ◌∙◌}
use Rattle.refspec_json.specs.Objects.{line_of, noted_object}
use Rattle.refspec_commands.proofs.tracking.report.to_object.Goals as goal

pub returns : goal.returns
returns c =
    let object = λ (x : List ℕ). line_of (noted_object (codes "to_object") x c.args.message.now) in
    c.in_ok-write_line.ensures ∙ (ap (λ (l : List ℕ). l ++ object c.as_str.result.now) c.new-line.ensures.items
    ∙ ap object (c.as_str.ensures.value ∙ c.in_ok-shown.ensures))
