-- The first option that isn't taken.
use Rattle.std.proofs.Common.{subst, take_all}
use Rattle.std.proofs.lemmas.List.Elements.{All-more}
use Rattle.std.proofs.lemmas.Result.{err_from_is_err_and}
use Rattle.std.specs.List.{All}
use Rattle.refspec_request.specs.Arguments.{Takes}
use Rattle.refspec_request.proofs.ArgumentLemmas.{given_refused}
use Rattle.refspec_request.proofs.arguments.check_switches.Goals as goal

pub loop-switch-preserved : goal.loop-switch-preserved
loop-switch-preserved c = All-more (Takes c.args.command) c.args.switches.now c.loop-switch.switch-index _
    c.loop-switch-test.true c.loop-switch.invariant c.in_ok-check_switch.ensures

pub returns-in_err-check_switch : goal.returns-in_err-check_switch
returns-in_err-check_switch c =
    let q = err_from_is_err_and c.from_residual.result c.from_residual.ensures.1 in
    rw (q.1, q.2) (given_refused c.args.command c.args.switches.now c.loop-switch.switch-index _ _
    c.loop-switch-test.true c.loop-switch.invariant c.in_err-check_switch.ensures)

pub returns : goal.returns
returns c = subst (All (Takes c.args.command))
    (take_all c.loop-switch.switch-index c.args.switches.now c.loop-switch-test.false) c.loop-switch.invariant
