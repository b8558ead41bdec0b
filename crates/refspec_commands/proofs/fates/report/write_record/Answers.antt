-- The fields are the spec, the word and the destination.
use Rattle.std.proofs.Common.{Some, ap, option_map, sym, ◌∙◌}
use Rattle.bstr.specs.Owned.{bstring_bytes}
use Rattle.refspec_io.proofs.ShownLemmas.{on_ok}
use Rattle.refspec_commands.specs.FateViews.{verdict_of}
use Rattle.refspec_commands.proofs.FateLemmas.{verdict_record}
use Rattle.refspec_commands.proofs.fates.report.write_record.Goals as goal

pub returns-in-None : goal.returns-in-None
returns-in-None c = on_ok c.write_field-in-None.result _ _ c.write_field-in-None.ensures
    (verdict_record (verdict_of c.args.verdict.now) _ c.as_bytes.result.now c.args.out.now.items
    c.write_field.new.out.items c.write_field-2.new.out.items c.write_field-in-None.new.out.items
    (ap (option_map bstring_bytes) c.in-None.is) (c.as_bytes.ensures.value ∙ c.word_of.ensures)
    c.in_ok-write_field.ensures c.in_ok-write_field-2.ensures)

pub returns-in-Some : goal.returns-in-Some
returns-in-Some c = on_ok c.write_field-in-Some.result _ _ c.write_field-in-Some.ensures
    (verdict_record (verdict_of c.args.verdict.now) (Some c.as_bytes-in-Some.result.now) c.as_bytes.result.now
    c.args.out.now.items c.write_field.new.out.items c.write_field-2.new.out.items
    c.write_field-in-Some.new.out.items
    (ap (option_map bstring_bytes) c.in-Some.is ∙ ap Some (sym c.as_bytes-in-Some.ensures))
    (c.as_bytes.ensures.value ∙ c.word_of.ensures) c.in_ok-write_field.ensures c.in_ok-write_field-2.ensures)
