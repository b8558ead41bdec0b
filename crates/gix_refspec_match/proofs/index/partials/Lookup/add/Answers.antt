use Rattle.gix_refspec_match.proofs.Common.{refl, sym, arith, ap, on_ok_weaker, list_of}
use Rattle.gix_refspec_match.proofs.lemmas.index.PartialLemmas.{adds_nothing, adds_one}
use Rattle.gix_refspec_match.proofs.index.partials.Lookup.add.Goals as goal

pub returns-then-not-passes : goal.returns-then-not-passes
returns-then-not-passes c = adds_nothing (λ x w known was same. grind (arith, c.if-not-passes.true, c.passes.ensures.1))

pub returns-in-None : goal.returns-in-None
returns-in-None c = rw c.get_mut.follows.holds-at-none
    (adds_nothing (λ x w passes was same. let none = ap (list_of c.args.places.now) same in cc
    (c.in-None.ensures.value)))

pub returns-in-First : goal.returns-in-First
returns-in-First c =
    let list = c.join_first.new.places in
    let updates = (c.get_mut.follows.holds list).3 (rw (← c.in-Some.ensures.value) refl) in
    on_ok_weaker c.join_first.result (λ joined. adds_one list (sym c.in-Some.ensures.value) (rw c.in-First.is joined)
    (λ q. updates.0 (record { name = record c.args.partial { now = q } })))
    c.join_first.ensures

pub returns-in_ok-push-in-All : goal.returns-in_ok-push-in-All
returns-in_ok-push-in-All c =
    let updates = (c.get_mut.follows.holds c.push.new.self).3 (rw (← c.in-Some.ensures.value) refl) in
    adds_one c.push.new.self (sym c.in-Some.ensures.value) (rw c.in-All.is c.in_ok-push-in-All.ensures.items)
    (λ q. updates.0 (record { name = record c.args.partial { now = q } }))
