-- A key in the section has the name of a remote; another has none.
use Rattle.refspec_request.proofs.RemoteLemmas.{configured_at, none_at_all, none_configured}
use Rattle.refspec_request.proofs.remotes.first_remote.Goals as goal

pub returns-in-Some : goal.returns-in-Some
returns-in-Some c = configured_at c.args.settings.now c.loop-setting.setting-index _ c.in-Some.name.now _
    c.loop-setting-test.true c.in-Some.ensures

pub loop-setting-preserved : goal.loop-setting-preserved
loop-setting-preserved c = λ name. none_configured c.args.settings.now c.loop-setting.setting-index _ name
    c.loop-setting-test.true c.in-None.ensures (c.loop-setting.invariant name)

pub returns : goal.returns
returns c = λ name. none_at_all c.args.settings.now c.loop-setting.setting-index name c.loop-setting-test.false
    (c.loop-setting.invariant name)
