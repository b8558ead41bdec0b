-- Each member is that of the warning.
use Rattle.std.proofs.Common.{◌∙◌, ◌++◌, List, ap, map, subst, sym}
use Rattle.std.specs.List.{AllZip}
use Rattle.refspec_json.specs.declared.warnings.WarnedSpec.{WarnedSpec}
use Rattle.refspec_json.specs.Objects.{line_of, warning_object}
use Rattle.refspec_json.specs.Views.{warned_texts}
use Rattle.refspec_io.specs.declared.texts.Text.{Text}
use Rattle.refspec_io.specs.Texts.{given_of}
use Rattle.refspec_commands.specs.Warned.{IsWarned}
use Rattle.refspec_io.specs.Json.{json_text}
use Rattle.refspec_io.specs.Messages.{IsSpot}
use Rattle.refspec_io.specs.declared.call.Form.TheVariants as form
use Rattle.refspec_io.proofs.ShownLemmas.{on_ok}
use Rattle.refspec_commands.specs.WarnedViews.{said_of}
use Rattle.refspec_commands.proofs.WarnedLemmas.{IsSaidLine-of}
use Rattle.refspec_commands.proofs.warnings.Warning.write_object.Goals as goal

pub returns : goal.returns
returns c =
    let w = c.args.self.now in
    let at = subst (IsSpot form.Json (said_of w).spot) (sym c.as_str.ensures.value) c.in_ok-location.ensures in
    let specs = subst (λ (l : List Text). AllZip IsWarned (map given_of l) (map warned_texts c.in_ok-specs.specs.items))
    c.as_slice.ensures.value c.in_ok-specs.ensures in
    on_ok c.write_line.result _ _ c.write_line.ensures (λ write. IsSaidLine-of w c.name.result.now c.as_str.result.now
    c.as_str-2.result.now c.as_str-3.result.now c.in_ok-specs.specs.items c.args.out.now.items
    c.write_line.new.out.items
    c.name.ensures at (c.as_str-2.ensures.value ∙ (c.in_ok-message.ensures ∙ ap json_text c.as_slice-2.ensures.value))
    specs
    (write ∙ ap (λ (l : List WarnedSpec). c.args.out.now.items ++ line_of
    (warning_object c.name.result.now c.as_str.result.now
    (map warned_texts l) c.as_str-2.result.now c.as_str-3.result.now)) c.as_slice-4.ensures.value))
