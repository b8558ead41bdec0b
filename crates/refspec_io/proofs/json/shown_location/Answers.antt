-- A location is written in UTF-8.
use Rattle.std.proofs.Common.{◌++◌, ap, subst, sym, ◌∙◌}
use Rattle.std.specs.Str.{IsUtf8}
use Rattle.refspec_io.specs.Messages.{IsLocation}
use Rattle.refspec_io.specs.declared.call.Form.TheVariants as form
use Rattle.refspec_io.proofs.JsonLemmas.{IsUtf8-location}
use Rattle.refspec_io.proofs.ShownLemmas.{if_ok}
use Rattle.refspec_io.proofs.json.shown_location.Goals as goal

pub string_of-requires : goal.string_of-requires
string_of-requires c =
    let write = c.in_ok-write.ensures in
    subst IsUtf8 (sym (c.as_slice.ensures.value ∙ (write.2 ∙ ap (λ l. l ++ write.0) c.new-shown.ensures.items)))
    (IsUtf8-location c.args.location.now write.0 write.1)

pub returns : goal.returns
returns c =
    let write = c.in_ok-write.ensures in
    let same = c.as_slice.ensures.value ∙ (write.2 ∙ ap (λ l. l ++ write.0) c.new-shown.ensures.items) in
    if_ok c.string_of.result _ _ c.string_of.ensures (λ shown is. subst (IsLocation form.Json c.args.location.now)
    (sym (is ∙ same)) write.1)
