-- Each member is that of the refusal.
use Rattle.std.proofs.Common.{List, Option, ℕ, option_map, subst, sym, ◌∙◌}
use Rattle.refspec_io.specs.Json.{ShowsWrong}
use Rattle.refspec_io.specs.Messages.{IsLocation}
use Rattle.refspec_io.specs.declared.call.Form.TheVariants as form
use Rattle.refspec_io.proofs.JsonLemmas.{WritesRefused-of}
use Rattle.refspec_io.proofs.ShownLemmas.{on_ok}
use Rattle.refspec_io.proofs.json.write_refusal.Goals as goal

pub returns : goal.returns
returns c =
    let text = c.args.text.now in
    let found = c.in_ok-wrong.wrong in
    let side = option_map (λ t. t.now) found.side in
    let at = subst (IsLocation form.Json text.location) (sym c.as_str.ensures.value) c.in_ok-location.ensures in
    let wrong = subst (λ (part : Option (List ℕ)). ShowsWrong text.operation text.bytes.now side part found.at)
    (sym c.as_deref-part.ensures.value) c.in_ok-wrong.ensures in
    on_ok c.write_line.result _ _ c.write_line.ensures
    (WritesRefused-of text c.args.error.now c.as_str.result.now c.operation_of.result.now c.as_str-2.result.now
    c.reason.result.now c.explanation.result.now side (option_map (λ t. t.now) c.as_deref-part.result) found.at
    c.in_ok-advice.advice.now c.args.out.now.items c.write_line.new.out.items at wrong c.operation_of.ensures
    (c.as_str-2.ensures.value ∙ c.in_ok-shown.ensures) c.reason.ensures c.explanation.ensures)
