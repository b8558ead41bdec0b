-- The key isn't one of specs; or it has no value; or its value is a spec.
use Rattle.std.proofs.Common.{◌∙◌, ◌++◌, ◌∷◌, [], ap, map, refl}
use Rattle.std.proofs.lemmas.List.{map-append}
use Rattle.refspec_io.specs.Texts.{given_of}
use Rattle.refspec_io.proofs.SettingLemmas.{AddsValues-one, AddsValues-other}
use Rattle.refspec_git.specs.Texts.{value_at}
use Rattle.refspec_git.proofs.chosen.add_text.Goals as goal

pub returns-in_default : goal.returns-in_default
returns-in_default c = AddsValues-other c.args.setting.now (map given_of c.args.texts.now.items) c.in_default.ensures

pub returns : goal.returns
returns c =
    let bytes = c.in-Some-value.bytes in
    AddsValues-one c.args.setting.now (value_at c.args.setting.now c.in-Some.operation bytes.now) bytes
    (map given_of c.args.texts.now.items) (map given_of c.push.new.self.items) c.in-Some.ensures c.in-Some-value.is refl
    refl (ap (map given_of) c.in_ok-push.ensures.items
    ∙ (map-append given_of c.args.texts.now.items (c.value.result ∷ [])
    ∙ ap (λ g. map given_of c.args.texts.now.items ++ g ∷ []) c.value.ensures))
