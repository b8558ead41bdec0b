use Rattle.gix_refspec_lint.proofs.Common.{IfOk-weaker, Reading, same_Some, Some, ap, arith, eqb-false, eqb-true, inl}
use Rattle.gix_refspec_lint.proofs.Common.{length, sym, ◌∙◌, length-map, map, subst, reading_of, accepted_few, HasParts}
use Rattle.gix_refspec_lint.proofs.Common.{IsCompleted}
use Rattle.gix_refspec_lint.proofs.lemmas.IndexLemmas.{reading_at}
use Rattle.gix_refspec_lint.proofs.lemmas.RemovalLemmas.{merges_first, none_first, plain_first, star_first}
use Rattle.gix_refspec_lint.proofs.lemmas.TrackLemmas.{completed_first}
use Rattle.gix_refspec_plan.proofs.lemmas.plan.NameLemmas.{zip_long}
use Rattle.gix_refspec_lint.proofs.removal.merges_first.Goals as goal

pub returns-then-is_empty : goal.returns-then-is_empty
returns-then-is_empty c = none_first (map reading_of c.args.values.now) (length-map c.args.values.now reading_of
    ∙ eqb-true (length c.args.values.now) 0 (sym c.is_empty.ensures ∙ c.if-is_empty.true))

pub parts_of-requires : goal.parts_of-requires
parts_of-requires c x is = accepted_few (reading_of c.index-values-0.result) x c.index-values-0.result.accepted
    (inl (sym c.source.ensures ∙ is))

pub returns-then-is_some : goal.returns-then-is_some
returns-then-is_some c =
    let values = c.args.values.now in
    let x = c.index-values-0.result in
    let at = reading_at values 0 x
    (omega (arith, eqb-false (length values) 0 (sym c.is_empty.ensures ∙ c.if-is_empty.false)))
    ∙ ap (λ y. Some (reading_of y)) (sym c.index-values-0.is) in
    star_first (map reading_of values) (reading_of x) at c.parts_of.result (rw c.source.ensures at c.parts_of.ensures)
    (sym c.is_some.ensures ∙ c.if-is_some.true)

pub of-requires-clause-free : goal.of-requires-clause-free
of-requires-clause-free c = c.requires.free

pub index-requires : goal.index-requires
index-requires c =
    omega (
      arith,
      zip_long IsCompleted _ _ c.in_ok-completed.ensures,
      length-map c.args.values.now reading_of,
      length-map c.in_ok-completed.completed.items reading_of,
      c.in_ok-completed.completed.ok.0,
      eqb-false (length c.args.values.now) 0 (sym c.is_empty.ensures ∙ c.if-is_empty.false),
    )

pub returns : goal.returns
returns c =
    let values = c.args.values.now in
    let g = map reading_of values in
    let x = c.index-values-0.result in
    let items = c.in_ok-completed.completed.items in
    let some = eqb-false (length values) 0 (sym c.is_empty.ensures ∙ c.if-is_empty.false) in
    let at = reading_at values 0 x (omega (arith, some)) ∙ ap (λ y. Some (reading_of y)) (sym c.index-values-0.is) in
    let long = zip_long IsCompleted g (map reading_of items) c.in_ok-completed.ensures in
    let (r, here, done) = completed_first g items c.index.result.now c.in_ok-completed.ensures
    (omega (arith, some, long, length-map values reading_of, length-map items reading_of)) c.index.ensures in
    let parts : HasParts (reading_of x).source c.parts_of.result = rw c.source.ensures at c.parts_of.ensures in
    let both = plain_first r (reading_of c.index.result.now) done c.parts_of.result
    (subst (λ (q : Reading). HasParts q.source c.parts_of.result) (same_Some _ _ (sym at ∙ here)) parts)
    (sym c.is_some.ensures ∙ c.if-is_some.false) in
    IfOk-weaker c.fetches_named.result _ _
    (λ does. merges_first g r (reading_of c.index.result.now) here done both.1 does)
    (c.fetches_named.ensures g c.in_ok-group.ensures both.0)
