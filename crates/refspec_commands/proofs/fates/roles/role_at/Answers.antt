-- The effect that was looked up is that of the spec.
use Rattle.refspec_commands.proofs.LocalLemmas.{found_at, maps_missing, maps_taken}
use Rattle.refspec_commands.proofs.fates.roles.role_at.Goals as goal

pub returns-then-lacks : goal.returns-then-lacks
returns-then-lacks c =
    let lookup = c.args.lookup.now in
    maps_missing lookup.question.now lookup.sources.now c.args.index c.in-Some-Some.at c.in-Some.source.now
    c.deref.result.now c.in-Some-get.effect.now
    (found_at _ _ _ c.in-Some.ensures.lookup.0 c.in-Some.ensures.lookup.1) c.deref.ensures.value
    (found_at _ _ _ c.in-Some-get.ensures.lookup.0 c.in-Some-get.ensures.lookup.1)
    (c.is_stored_in.ensures c.if-not-is_stored_in.false) (rw c.if-lacks.true at c.lacks.ensures)

pub returns : goal.returns
returns c =
    let lookup = c.args.lookup.now in
    maps_taken lookup.question.now lookup.sources.now c.args.index c.in-Some-Some.at c.in-Some.source.now
    c.deref.result.now c.in-Some-get.effect.now
    (found_at _ _ _ c.in-Some.ensures.lookup.0 c.in-Some.ensures.lookup.1) c.deref.ensures.value
    (found_at _ _ _ c.in-Some-get.ensures.lookup.0 c.in-Some-get.ensures.lookup.1)
    (c.is_stored_in.ensures c.if-not-is_stored_in.false) (rw c.if-lacks.false at c.lacks.ensures)
