-- A spec behind one with the same sides is in such a conflict only with those with which that one is.
use Rattle.gix_refspec_lint.proofs.Common.{arith}
use Rattle.gix_refspec_lint.proofs.lemmas.AlikeLemmas.{earlier_some, row_there}
use Rattle.gix_refspec_lint.proofs.nestings.nestings_of.Goals as goal

pub bounds-rows-before : goal.bounds-rows-before
bounds-rows-before c =
    let earlier = earlier_some _ _ c.in-Some.before c.in-Some.is (c.requires.earlier c.args.first) in
    let before = earlier.before in
    omega (arith, before, c.requires.rows)

pub returns-in-None : goal.returns-in-None
returns-in-None c g is have tell rows = c.nestings_with.ensures g is have tell

pub returns-in-Some : goal.returns-in-Some
returns-in-Some c g is have tell rows =
    let earlier = earlier_some _ _ c.in-Some.before c.in-Some.is (c.requires.earlier c.args.first) in
    let before = earlier.before in
    c.nestings_again.ensures g is have tell c.in-Some.before earlier
    (rw c.as_slice.ensures.value (rows c.in-Some.before c.index-rows-before.result.items
    (row_there (λ v. v.items) c.args.rows.now c.in-Some.before c.index-rows-before.result
    (omega (arith, before, c.requires.rows)) c.index-rows-before.is)))
