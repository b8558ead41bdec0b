-- Each setting counts, or is ignored.
use Rattle.std.proofs.Common.{List, subst, sym, take, take_all}
use Rattle.std.proofs.lemmas.List.{take_more}
use Rattle.refspec_io.specs.declared.settings.Setting.{Setting}
use Rattle.refspec_git.specs.Repository.{AreCounted}
use Rattle.refspec_git.proofs.repository.counted_in.Goals as goal

pub loop-setting-preserved : goal.loop-setting-preserved
loop-setting-preserved c =
    let all = c.args.all.now in
    let i = c.loop-setting.setting-index in
    subst (λ (l : List Setting). AreCounted l c.add_counted.new.counted.items)
    (sym (take_more all i _ c.loop-setting-test.true))
    (c.in_ok-add_counted.ensures (take i all) c.loop-setting.invariant)

pub returns : goal.returns
returns c = subst (λ (l : List Setting). AreCounted l c.loop-setting.counted.items)
    (take_all c.loop-setting.setting-index c.args.all.now c.loop-setting-test.false) c.loop-setting.invariant
