-- In JSON the report is an object with the text of the spec; else the results stay as they were.
use Rattle.std.proofs.Common.{Some, ap, codes, refl, sym, ◌∙◌}
use Rattle.gix_refspec.specs.Views.Spec.{reading_of}
use Rattle.refspec_json.specs.Objects.{line_of, noted_object}
use Rattle.refspec_io.specs.Json.{json_text}
use Rattle.refspec_io.proofs.JsonLemmas.{AddsObjects-one}
use Rattle.refspec_io.proofs.ShownLemmas.{on_ok}
use Rattle.refspec_commands.specs.Prefixes.{IsReasonObject}
use Rattle.refspec_commands.proofs.prefixes.report.report_reason.Goals as goal

pub returns-in-Json-clause-reported : goal.returns-in-Json-clause-reported
returns-in-Json-clause-reported c = on_ok c.write_reason.result _ _ c.write_reason.ensures (λ write.
    let text = c.as_bytes.result.now in
    let line = line_of (noted_object (codes "all") (json_text text) write.0) in
    let printed = c.in_ok-canonical.ensures ∙ ap Some (sym c.as_bytes.ensures) in
    AddsObjects-one c.args.report.now.form IsReasonObject (reading_of c.args.spec.now) line
    c.args.report.now.results.items c.write_reason.new.out.items c.in-Json.is
    (record { text = text; message = write.0; is_text = printed; is = refl }) write.1)
