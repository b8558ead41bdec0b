-- The fields are the destination, the source and the text of the spec.
use Rattle.std.proofs.Common.{◌++◌, [], ap, ◌∙◌}
use Rattle.gix_refspec.specs.Views.Group.{mapped_of}
use Rattle.refspec_io.specs.Rows.{mapped_row}
use Rattle.refspec_io.specs.Shown.{zero_ended}
use Rattle.refspec_io.proofs.RowLemmas.{fields-of}
use Rattle.refspec_io.proofs.ShownLemmas.{on_ok}
use Rattle.refspec_commands.proofs.mappings.write_fields.Goals as goal

pub returns : goal.returns
returns c = on_ok c.write_field-2.result _ _ c.write_field-2.ensures
    (fields-of (mapped_row [] c.args.text.now (mapped_of c.args.mapping.now)) c.args.out.now.items
    c.write_field.new.out.items c.write_source_field.new.out.items c.write_field-2.new.out.items
    (c.in_ok-write_field.ensures ∙ ap (λ d. c.args.out.now.items ++ zero_ended d) c.destination_or-destination.ensures)
    c.in_ok-write_source_field.ensures)
