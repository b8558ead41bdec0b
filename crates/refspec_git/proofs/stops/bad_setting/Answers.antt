-- The first setting that isn't passed.
use Rattle.std.proofs.Common.{subst, take_all}
use Rattle.std.proofs.lemmas.List.Elements.{All-more}
use Rattle.std.specs.List.{All}
use Rattle.refspec_git.specs.Stops.{Passes}
use Rattle.refspec_git.proofs.StopsLemmas.{StopsFirst-at}
use Rattle.refspec_git.proofs.stops.bad_setting.Goals as goal

pub loop-setting-preserved : goal.loop-setting-preserved
loop-setting-preserved c = All-more (Passes c.args.command) c.args.settings.now c.loop-setting.setting-index _
    c.loop-setting-test.true c.loop-setting.invariant c.in_default.ensures

pub returns-in-Some : goal.returns-in-Some
returns-in-Some c = StopsFirst-at c.args.command c.args.settings.now c.loop-setting.setting-index _ c.in-Some.refusal
    c.loop-setting-test.true c.loop-setting.invariant c.in-Some.ensures

pub returns : goal.returns
returns c = subst (All (Passes c.args.command))
    (take_all c.loop-setting.setting-index c.args.settings.now c.loop-setting-test.false) c.loop-setting.invariant
