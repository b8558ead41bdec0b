-- Each member is that of the update.
use Rattle.std.proofs.Common.{codes, option_map, ap, ◌∙◌}
use Rattle.gix_refspec_plan.specs.Views.Plan.{planned_of}
use Rattle.refspec_io.specs.Json.{json_text}
use Rattle.refspec_io.proofs.ShownLemmas.{on_ok}
use Rattle.refspec_fetch.proofs.LeftOutLemmas.{nested_line-of}
use Rattle.refspec_fetch.proofs.nested.write_nested_object.Goals as goal

pub returns : goal.returns
returns c =
    let source = c.as_str.ensures.value ∙ (c.in_ok-source.ensures ∙ ap json_text c.requires) in
    let destination = c.as_deref-destination.ensures.value
    ∙ (c.in_ok-destination.ensures ∙ ap (option_map json_text) c.destination_of-name.ensures) in
    on_ok c.write_line.result _ _ c.write_line.ensures
    (nested_line-of (planned_of c.args.unwritten.now.update.now) c.args.unwritten.now.spec.now c.as_str.result.now
    c.as_str-2.result.now
    c.origin_name.result.now c.as_str-3.result.now
    (codes
    "One of the two names is a directory of the other, so Git writes one of them, and git fetch ends with status 1.")
    (option_map (λ t. t.now) c.as_deref-destination.result) c.args.out.now.items c.write_line.new.out.items source
    destination (c.as_str-2.ensures.value ∙ c.in_ok-spec.ensures) c.origin_name.ensures)
