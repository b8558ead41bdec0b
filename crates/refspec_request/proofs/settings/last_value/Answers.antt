-- A setting with the key is the last one so far; another changes nothing.
use Rattle.std.proofs.Common.{◌∙◌, ap, option_map}
use Rattle.refspec_request.specs.Settings.{joined_key}
use Rattle.refspec_request.proofs.SettingLemmas.{last_more, last_same}
use Rattle.refspec_request.proofs.settings.last_value.Goals as goal
use Rattle.refspec_request.proofs.settings.last_value.Goals.{then-is_joined, else-is_joined}

pub loop-setting-preserved : goal.loop-setting-preserved
loop-setting-preserved c =
    let key = joined_key c.args.section.now c.args.name.now c.args.variable.now in
    let i = c.loop-setting.setting-index in
    elim c.if-is_joined.branch [
      | then-is_joined w ↦ ap (option_map (λ value. value.now)) w.last-is
          ∙ last_more key c.args.settings.now i _ c.loop-setting-test.true w.if-is_joined.ensures
      | else-is_joined w ↦ ap (option_map (λ value. value.now)) w.last-is
          ∙ last_same key c.args.settings.now i _ _ c.loop-setting-test.true w.if-is_joined.ensures
          c.loop-setting.invariant
    ]
