-- The count with the remotes that a setting lists, and what it tells.
use Rattle.std.proofs.Common.{◌∙◌, ◌^◌, ◌-◌, ap, arith, length, lit<}
use Rattle.std.proofs.lemmas.Bool.{ltb-true, lt-ltb}
use Rattle.refspec_request.specs.Remotes.{listed_in}
use Rattle.refspec_request.proofs.RemoteLemmas.{group_counted, group_more}
use Rattle.refspec_request.proofs.remotes.is_group.Goals as goal

pub loop-setting-preserved : goal.loop-setting-preserved
loop-setting-preserved c =
    group_more c.args.name.now c.args.settings.now c.loop-setting.setting-index _ c.loop-setting.count
    c.count_listed.result c.saturating_add-count.result (2 ^ 64 - 1) c.loop-setting-test.true c.loop-setting.invariant
    (lit< tt)
    (c.count_listed.ensures ∙ ap (λ text. length (listed_in text)) c.members_in.ensures) c.saturating_add-count.ensures

pub returns : goal.returns
returns c =
    let told = group_counted c.args.name.now c.args.settings.now c.loop-setting.setting-index c.loop-setting.count
    (omega (arith, c.loop-setting-test.false)) c.loop-setting.invariant in
    ((λ so. told.0 (ltb-true 1 c.loop-setting.count so)), λ is. lt-ltb 1 c.loop-setting.count (told.1 is))
