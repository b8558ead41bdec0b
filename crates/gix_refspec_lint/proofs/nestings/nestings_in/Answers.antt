use Rattle.std.proofs.Common.{length-append}
use Rattle.gix_refspec_lint.proofs.Common.{[], ◌∷◌, length, map, sym, ap, ◌∙◌, take_all, arith, map-append, zip_long}
use Rattle.gix_refspec_lint.proofs.Common.{length-map, subst}
use Rattle.gix_refspec_lint.proofs.lemmas.AlikeLemmas.{greater_shown, rows_more}
use Rattle.gix_refspec_lint.proofs.lemmas.FoundLemmas.{group_long}
use Rattle.gix_refspec_lint.proofs.lemmas.NestFoundLemmas.{rows_next}
use Rattle.gix_refspec_lint.specs.Private.Alike.{AreIndexesOf, CanShowNesting, second_of}
use Rattle.gix_refspec_lint.specs.Views.Lint.{nesting_of}
use Rattle.gix_refspec_lint.proofs.nestings.nestings_in.Goals as goal

pub works_in-requires-clause-long : goal.works_in-requires-clause-long
works_in-requires-clause-long c = ap length c.as_slice.ensures.value ∙ c.in_ok-earlier.ensures.long

pub works_in-requires-clause-earlier : goal.works_in-requires-clause-earlier
works_in-requires-clause-earlier c = rw c.as_slice.ensures.value c.in_ok-earlier.ensures.alike

pub nestings_of-requires-clause-parts : goal.nestings_of-requires-clause-parts
nestings_of-requires-clause-parts c = ap length c.as_slice-2.ensures.value
    ∙ sym (zip_long _ c.args.group.now.specs.now c.in_ok-parts.parts.items c.in_ok-parts.ensures)

pub nestings_of-requires-clause-works : goal.nestings_of-requires-clause-works
nestings_of-requires-clause-works c = ap length c.as_slice-3.ensures.value ∙ c.in_ok-works.ensures.long

pub nestings_of-requires-clause-long : goal.nestings_of-requires-clause-long
nestings_of-requires-clause-long c = ap length c.as_slice-4.ensures.value ∙ c.in_ok-earlier.ensures.long

pub nestings_of-requires-clause-earlier : goal.nestings_of-requires-clause-earlier
nestings_of-requires-clause-earlier c = rw c.as_slice-4.ensures.value c.in_ok-earlier.ensures.alike

pub nestings_of-requires-clause-rows : goal.nestings_of-requires-clause-rows
nestings_of-requires-clause-rows c = ap length c.as_slice-in-loop-first.ensures.value ∙ c.loop-first.invariant.0

pub loop-first-preserved : goal.loop-first-preserved
loop-first-preserved c =
    let i = c.loop-first.first in
    let rows = c.loop-first.rows.items in
    let row = c.in_ok-seconds.seconds in (
      omega (arith, ap length c.in_ok-push.ensures.items, length-append rows (row ∷ []), c.loop-first.invariant.0),
      λ g is.
          let (so_far, are) = c.loop-first.invariant.1 g is in
          let told = c.in_ok-of_first.ensures g is (rw c.as_slice-2.ensures.value c.in_ok-parts.ensures)
          (rw c.as_slice-3.ensures.value (c.in_ok-works.ensures.dead g is))
          (rw c.as_slice-in-loop-first.ensures.value are) in (
            rows_next g i _ _ _ (rw (group_long g c.args.group.now is) c.loop-first-test.true) told so_far
                (ap (map nesting_of) c.in_ok-append.ensures.items ∙ map-append nesting_of c.loop-first.found.items
                c.in_ok-of_first.of_first.items),
            rows_more (CanShowNesting g) g i (map (λ v. v.items) rows) _ row.items
                (length-map rows (λ v. v.items) ∙ c.loop-first.invariant.0)
                (ap (map (λ v. v.items)) c.in_ok-push.ensures.items ∙ map-append (λ v. v.items) rows (row ∷ []))
                (subst (AreIndexesOf (CanShowNesting g i) g)
                (sym (c.in_ok-seconds.ensures
                ∙ ap (map (λ c. second_of (nesting_of c))) c.as_slice-in-loop-first-2.ensures.value))
                (greater_shown g i c.in_ok-of_first.of_first.items told)) are,
          ),
    )

pub returns : goal.returns
returns c g is =
    rw (take_all c.loop-first.first g (omega (arith, group_long g c.args.group.now is, c.loop-first-test.false))) at
    (c.loop-first.invariant.1 g is).0
