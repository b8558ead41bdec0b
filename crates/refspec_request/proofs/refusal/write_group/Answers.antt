-- The remotes that one more setting lists.
use Rattle.std.proofs.Common.{[], codes}
use Rattle.refspec_request.specs.Refusals.{about}
use Rattle.refspec_request.proofs.RefusalLemmas.{all_members, first_members, more_members}
use Rattle.refspec_request.proofs.refusal.write_group.Goals as goal

pub loop-setting-init : goal.loop-setting-init
loop-setting-init c = first_members
    (about [] c.args.name.now (codes " is a group of remotes; name one of them:")) _ _ c.in_ok-write_about.ensures

pub loop-setting-preserved : goal.loop-setting-preserved
loop-setting-preserved c =
    more_members (about [] c.args.name.now (codes " is a group of remotes; name one of them:")) c.args.name.now
    c.args.settings.now c.loop-setting.setting-index _ _ _ _ _ c.loop-setting-test.true c.loop-setting.invariant
    c.in_ok-write_members.ensures c.members_in.ensures

pub returns : goal.returns
returns c =
    all_members (about [] c.args.name.now (codes " is a group of remotes; name one of them:")) c.args.name.now
    c.args.settings.now c.loop-setting.setting-index _ _ c.loop-setting-test.false c.loop-setting.invariant
