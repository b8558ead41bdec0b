-- Each member is that of the mapping.
use Rattle.std.proofs.Common.{option_map, ap, ◌∙◌}
use Rattle.gix_refspec.specs.Views.Group.{mapped_of}
use Rattle.refspec_io.specs.Json.{json_text}
use Rattle.refspec_io.proofs.RowLemmas.{mapped_object-of}
use Rattle.refspec_io.proofs.ShownLemmas.{on_ok}
use Rattle.refspec_commands.proofs.mappings.write_mapping_object.Goals as goal

pub returns : goal.returns
returns c =
    let source = c.as_str.ensures.value ∙ (c.in_ok-source.ensures ∙ ap json_text c.in_ok-source_of.ensures) in
    let destination = c.as_deref.ensures.value ∙ (c.in_ok-destination.ensures ∙ ap (option_map json_text)
    c.destination_of.ensures) in
    on_ok c.write_line.result _ _ c.write_line.ensures (mapped_object-of (mapped_of c.args.mapping.now)
    c.args.text.now c.as_str.result.now c.as_str-2.result.now (option_map (λ t. t.now)
    c.as_deref.result) c.args.out.now.items c.write_line.new.out.items source destination
    (c.as_str-2.ensures.value ∙ c.in_ok-spec.ensures))
