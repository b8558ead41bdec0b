-- The fields are the source, the destination, the text of the spec and the name of its origin.
use Rattle.std.proofs.Common.{◌++◌, ap, ◌∙◌}
use Rattle.gix_refspec_plan.specs.Views.Plan.{planned_of}
use Rattle.refspec_io.specs.Shown.{zero_ended}
use Rattle.refspec_io.proofs.ShownLemmas.{on_ok}
use Rattle.refspec_fetch.proofs.UpdateLemmas.{fields_with-of}
use Rattle.refspec_fetch.proofs.updates.write_fields.Goals as goal

pub returns : goal.returns
returns c = on_ok c.write_field-3.result _ _ c.write_field-3.ensures
    (fields_with-of c.args.text.now c.as_bytes.result.now (planned_of c.args.update.now) c.args.out.now.items
    c.write_source_field.new.out.items c.write_field.new.out.items c.write_field-2.new.out.items
    c.write_field-3.new.out.items c.in_ok-write_source_field.ensures
    (c.in_ok-write_field.ensures ∙ ap (λ d. c.write_source_field.new.out.items ++ zero_ended d)
    c.destination_or-destination.ensures) c.in_ok-write_field-2.ensures
    (c.as_bytes.ensures.value ∙ c.origin_name.ensures))
