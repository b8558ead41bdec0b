-- Each member is that of the spec; the sentence is left open.
use Rattle.std.proofs.Common.{ap, option_map, ◌∙◌}
use Rattle.refspec_io.specs.Json.{json_text}
use Rattle.refspec_io.proofs.ShownLemmas.{on_ok}
use Rattle.refspec_commands.specs.LocalViews.{part_of}
use Rattle.refspec_commands.proofs.LocalLemmas.{mapped_constant, part_object}
use Rattle.refspec_commands.proofs.fates.role_report.write_object.Goals as goal

pub returns : goal.returns
returns c = on_ok c.write_line.result _ _ c.write_line.ensures (part_object c.args.name.now
    (part_of c.args.part.now) c.as_str.result.now c.as_str-2.result.now c.as_str-3.result.now
    (option_map (λ t. t.now) c.as_deref.result) c.args.out.now.items
    c.write_line.new.out.items (c.as_str.ensures.value ∙ c.in_ok-spec.ensures)
    (c.as_str-2.ensures.value ∙ (c.in_ok-remote.ensures ∙ ap json_text c.remote_name.ensures))
    (c.as_deref.ensures.value ∙ (c.in_ok-destination.ensures ∙ (ap (option_map json_text) c.destination_of.ensures
    ∙ mapped_constant (part_of c.args.part.now).source c.args.name.now))))
