-- Each member is that of the text.
use Rattle.std.proofs.Common.{option_map, ap, subst, sym, ◌∙◌}
use Rattle.bstr.specs.Owned.{bstring_bytes}
use Rattle.refspec_json.specs.Views.{kind_name}
use Rattle.refspec_io.specs.Json.{json_text}
use Rattle.refspec_io.specs.Messages.{IsLocation}
use Rattle.refspec_io.specs.declared.call.Form.TheVariants as form
use Rattle.refspec_io.proofs.JsonLemmas.{WritesSpec-of}
use Rattle.refspec_io.proofs.ShownLemmas.{on_ok}
use Rattle.refspec_commands.proofs.specs.write_spec.Goals as goal

pub returns : goal.returns
returns c =
    let shown = c.args.shown.now in
    let at = subst (IsLocation form.Json c.args.text.now.location) (sym c.as_str.ensures.value)
    c.in_ok-location.ensures in
    let name = c.as_str-3.ensures.value ∙ (c.in_ok-canonical.ensures ∙ ap json_text c.as_bytes.ensures) in
    on_ok c.write_line.result _ _ c.write_line.ensures (WritesSpec-of (kind_name shown.kind) c.args.text.now
    (bstring_bytes shown.canonical.now) (option_map (λ t. t.now) shown.meaning) (option_map (λ t. t.now) shown.same_as)
    c.as_str.result.now c.operation_of.result.now c.as_str-2.result.now c.as_str-3.result.now c.args.out.now.items
    c.write_line.new.out.items at c.operation_of.ensures (c.as_str-2.ensures.value ∙ c.in_ok-bytes.ensures) name)
