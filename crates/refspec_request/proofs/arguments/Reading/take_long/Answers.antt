-- An option whose value is next, one with its value, or one without.
use Rattle.std.proofs.Common.{[], ◌∷◌, inl, refl, subst}
use Rattle.refspec_request.specs.Reading.{IsLong}
use Rattle.refspec_request.proofs.ArgumentLemmas.{lacking_read, switches_read, valued_read}
use Rattle.refspec_request.proofs.arguments.Reading.take_long.Goals as goal

pub returns-in-Lacking-clause-ok : goal.returns-in-Lacking-clause-ok
returns-in-Lacking-clause-ok c = λ seen call complete open_.
    let r = c.args.self.now in
    let a = c.args.argument.now in
    lacking_read seen a c.in-Lacking.option r.options r.texts r.wants r.dashes complete open_
    (subst (IsLong a) c.in-Lacking.is c.in_ok-long.ensures) call

pub returns-in_ok-set_value-in-Valued-clause-ok : goal.returns-in_ok-set_value-in-Valued-clause-ok
returns-in_ok-set_value-in-Valued-clause-ok c = λ seen call complete open_.
    let r = c.args.self.now in
    let a = c.args.argument.now in
    let is = subst (IsLong a) c.in-Valued.is c.in_ok-long.ensures in
    valued_read seen a is.0 c.in-Valued.value.now c.in-Valued.option r.options c.set_value.new.self r.texts r.wants
    r.dashes complete open_ is.1 is.2 call c.in_ok-set_value-in-Valued.ensures

pub returns-in_ok-push-in-Switch-clause-ok : goal.returns-in_ok-push-in-Switch-clause-ok
returns-in_ok-push-in-Switch-clause-ok c = λ seen call complete open_.
    let r = c.args.self.now in
    let a = c.args.argument.now in
    let s = c.in-Switch.switch in
    switches_read seen a (s ∷ []) r.options
    (record r.options { switches = c.push.new.self }) r.texts r.wants r.dashes complete open_
    (a, inl (s, subst (IsLong a) c.in-Switch.is c.in_ok-long.ensures, refl), refl)
    c.in_ok-push-in-Switch.ensures.items refl refl call
