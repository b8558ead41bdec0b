-- Each value is one merged ref more.
use Rattle.std.proofs.Common.{◌∙◌, Bor, List, [], ◌∷◌, ◌++◌, ap, map, sym, take, take_all, unwrap_or, ℕ}
use Rattle.std.proofs.lemmas.List.{map-append, map_more}
use Rattle.refspec_io.specs.declared.settings.Setting.{Setting}
use Rattle.refspec_request.specs.Settings.{value_in}
use Rattle.refspec_git.proofs.configured.merges_of.Goals as goal

abbrev value_of : Setting → List ℕ
value_of s = unwrap_or (value_in s) []

abbrev now : Bor (List ℕ) → List ℕ
now text = text.now

pub loop-setting-preserved : goal.loop-setting-preserved
loop-setting-preserved c =
    let items = c.deref-setting-items.result.now in
    let i = c.loop-setting.setting-index in
    let x = c.merged_value.result in
    ap (map now) c.in_ok-push.ensures.items ∙ (map-append now c.loop-setting.merges.items (x ∷ [])
    ∙ (ap (λ l. l ++ x.now ∷ []) c.loop-setting.invariant
    ∙ (ap (λ v. map value_of (take i items) ++ v ∷ []) c.merged_value.ensures
    ∙ sym (map_more value_of items i _ c.loop-setting-test.true))))

pub returns : goal.returns
returns c = record {
  own = λ from. c.loop-setting.invariant ∙ ap (map value_of)
      (take_all c.loop-setting.setting-index c.deref-setting-items.result.now c.loop-setting-test.false
      ∙ (c.deref-setting-items.ensures.value ∙ c.in_ok-named.ensures));
  other = λ other. absurd (other c.if-not-merges_from.ensures);
}
