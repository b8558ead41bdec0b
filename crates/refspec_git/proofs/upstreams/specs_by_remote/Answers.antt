-- One more setting is added.
use Rattle.std.proofs.Common.{subst, sym, take}
use Rattle.std.proofs.lemmas.List.{take_more}
use Rattle.refspec_git.specs.Upstreams.{AreSpecsBy}
use Rattle.refspec_git.proofs.upstreams.specs_by_remote.Goals as goal

pub loop-setting-preserved : goal.loop-setting-preserved
loop-setting-preserved c =
    let all = c.args.settings.now in
    let i = c.loop-setting.setting-index in
    subst (λ l. AreSpecsBy l c.add_value.new.specs) (sym (take_more all i _ c.loop-setting-test.true))
    (c.in_ok-add_value.ensures (take i all) c.loop-setting.invariant)
