-- A setting with the key is the last so far; another changes nothing.
use Rattle.std.proofs.Common.{◌∙◌, ap, codes, sym, take}
use Rattle.std.specs.Str.{bytes_eq}
use Rattle.refspec_request.specs.Settings.{has_key, settings_with}
use Rattle.refspec_git.specs.Configured.{last_of}
use Rattle.refspec_git.proofs.ConfiguredLemmas.{kept_none, kept_one, last_push}
use Rattle.refspec_git.proofs.configured.last_of_fetches.Goals as goal
use Rattle.refspec_git.proofs.configured.last_of_fetches.Goals.{else-eq, then-eq}

pub loop-setting-preserved : goal.loop-setting-preserved
loop-setting-preserved c =
    let key = codes "fetch.prunetags" in
    let all = c.args.settings.now in
    let i = c.loop-setting.setting-index in
    let below = c.loop-setting-test.true in
    elim c.if-eq.branch [
      | then-eq w ↦ w.last-is ∙ sym (ap last_of (kept_one (has_key key) all i _ below
          (w.if-eq.ensures ∙ ap (bytes_eq _) c.as_slice.ensures)) ∙ last_push (settings_with key (take i all)) _)
      | else-eq w ↦ w.last-is ∙ (c.loop-setting.invariant ∙ sym (ap last_of (kept_none (has_key key) all i _ below
          (w.if-eq.ensures ∙ ap (bytes_eq _) c.as_slice.ensures))))
    ]
