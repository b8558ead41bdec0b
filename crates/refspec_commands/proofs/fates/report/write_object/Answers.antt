-- Each member is that of the verdict; the sentence is left open.
use Rattle.std.proofs.Common.{ap, option_map, ◌∙◌}
use Rattle.refspec_io.specs.Json.{json_text}
use Rattle.refspec_io.proofs.ShownLemmas.{on_ok}
use Rattle.refspec_commands.specs.FateViews.{verdict_of}
use Rattle.refspec_commands.proofs.FateLemmas.{verdict_object}
use Rattle.refspec_commands.proofs.fates.report.write_object.Goals as goal

pub returns : goal.returns
returns c = on_ok c.write_line.result _ _ c.write_line.ensures (verdict_object c.args.name.now
    (verdict_of c.args.verdict.now) c.as_str.result.now c.as_str-2.result.now c.word_of.result.now
    c.as_str-3.result.now (option_map (λ t. t.now) c.as_deref.result) c.args.out.now.items
    c.write_line.new.out.items (c.as_str.ensures.value ∙ c.in_ok-spec.ensures)
    (c.as_str-2.ensures.value ∙ c.in_ok-name.ensures) (c.as_deref.ensures.value ∙ (c.in_ok-destination.ensures
    ∙ ap (option_map json_text) c.destination_in.ensures)) c.word_of.ensures)
