-- Each member is that of the update.
use Rattle.std.proofs.Common.{Some, option_map, ap, ◌∙◌}
use Rattle.gix_refspec_plan.specs.Views.Plan.{planned_of}
use Rattle.refspec_io.specs.Json.{json_text}
use Rattle.refspec_io.proofs.ShownLemmas.{on_ok}
use Rattle.refspec_fetch.proofs.UpdateLemmas.{object_with-of}
use Rattle.refspec_fetch.proofs.updates.write_object.Goals as goal

pub returns : goal.returns
returns c =
    let source = c.as_str.ensures.value ∙ (c.in_ok-source.ensures ∙ ap json_text c.in_ok-source_of.ensures) in
    let destination = c.as_deref-destination.ensures.value
    ∙ (c.in_ok-destination.ensures ∙ ap (option_map json_text) c.destination_of-name.ensures) in
    on_ok c.write_line.result _ _ c.write_line.ensures
    (object_with-of (planned_of c.args.update.now) c.args.text.now c.as_str.result.now c.as_str-2.result.now
    (option_map (λ t. t.now) c.as_deref-destination.result) (Some c.origin_name.result.now) c.args.out.now.items
    c.write_line.new.out.items source destination (c.as_str-2.ensures.value ∙ c.in_ok-spec.ensures)
    (ap Some c.origin_name.ensures))
