-- A setting with a value is one text more.
use Rattle.std.proofs.Common.{◌∙◌, [], ◌∷◌, ◌++◌, ap, filter_map, map, option_map, sym, take_all}
use Rattle.std.proofs.lemmas.List.{map-append}
use Rattle.refspec_io.specs.Texts.{given_of}
use Rattle.refspec_git.specs.Configured.{fetch_text}
use Rattle.refspec_git.proofs.ConfiguredLemmas.{made_none, made_one}
use Rattle.refspec_git.proofs.configured.fetch_texts.Goals as goal
use Rattle.refspec_git.proofs.configured.fetch_texts.Goals.{in-Some+in_ok-push, in_default}

pub loop-setting-preserved : goal.loop-setting-preserved
loop-setting-preserved c =
    let items = c.deref-setting-items.result.now in
    let i = c.loop-setting.setting-index in
    let below = c.loop-setting-test.true in
    elim c.match-fetch_text.branch [
      | in-Some+in_ok-push w ↦ ap (λ v. map given_of v.items) w.values-is
          ∙ (ap (map given_of) w.in_ok-push.ensures.items
          ∙ (map-append given_of c.loop-setting.values.items (w.in-Some.text ∷ [])
          ∙ (ap (λ l. l ++ given_of w.in-Some.text ∷ []) c.loop-setting.invariant
          ∙ sym (made_one fetch_text items i _ below (given_of w.in-Some.text)
          (sym c.fetch_text.ensures ∙ ap (option_map given_of) w.in-Some.is)))))
      | in_default w ↦ ap (λ v. map given_of v.items) w.values-is ∙ (c.loop-setting.invariant
          ∙ sym (made_none fetch_text items i _ below
          (sym c.fetch_text.ensures ∙ ap (option_map given_of) w.in_default.is)))
    ]

pub returns : goal.returns
returns c = c.loop-setting.invariant ∙ ap (filter_map fetch_text)
    (take_all c.loop-setting.setting-index c.deref-setting-items.result.now c.loop-setting-test.false
    ∙ (c.deref-setting-items.ensures.value ∙ c.in_ok-named.ensures))
