-- The fields are the spec, the word and the source.
use Rattle.std.proofs.Common.{Some, ap, option_map, ◌∙◌, ◌++◌}
use Rattle.refspec_io.specs.Shown.{zero_ended}
use Rattle.refspec_io.proofs.ShownLemmas.{on_ok}
use Rattle.refspec_commands.specs.LocalViews.{part_of}
use Rattle.refspec_commands.proofs.LocalLemmas.{part_record}
use Rattle.refspec_commands.proofs.fates.role_report.write_record.Goals as goal

pub returns-in-None : goal.returns-in-None
returns-in-None c = on_ok c.write_field-in-None.result _ _ c.write_field-in-None.ensures
    (part_record (part_of c.args.part.now) _ c.args.out.now.items c.write_field.new.out.items
    c.write_field-2.new.out.items c.write_field-in-None.new.out.items
    (ap (option_map (λ s. s.now)) c.in-None.is) c.in_ok-write_field.ensures
    (c.in_ok-write_field-2.ensures ∙ ap (λ w. c.write_field.new.out.items ++ zero_ended w) c.as_bytes.ensures.value))

pub returns-in-Some : goal.returns-in-Some
returns-in-Some c = on_ok c.write_field-in-Some.result _ _ c.write_field-in-Some.ensures
    (part_record (part_of c.args.part.now) (Some c.in-Some.source.now) c.args.out.now.items
    c.write_field.new.out.items c.write_field-2.new.out.items c.write_field-in-Some.new.out.items
    (ap (option_map (λ s. s.now)) c.in-Some.is) c.in_ok-write_field.ensures
    (c.in_ok-write_field-2.ensures ∙ ap (λ w. c.write_field.new.out.items ++ zero_ended w) c.as_bytes.ensures.value))
