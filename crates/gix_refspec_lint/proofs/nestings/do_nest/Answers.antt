use Rattle.gix_refspec_lint.proofs.Common.{map, refl, sym, ◌∙◌, false≢true, IfOk-weaker, ref_of, start_of, refs_of}
use Rattle.gix_refspec_lint.proofs.Common.{HaveSameNames, ◌++◌}
use Rattle.gix_refspec_lint.proofs.lemmas.FoundLemmas.{both_named, makes_named}
use Rattle.gix_refspec_lint.proofs.lemmas.NestFoundLemmas.{nest_made, reading_of_spec}
use Rattle.gix_refspec_lint.proofs.nestings.do_nest.Goals as goal

pub returns-then-not-can_stand_together : goal.returns-then-not-can_stand_together
returns-then-not-can_stand_together c g is written also nested =
    ((λ told. absurd (false≢true told)), (λ k. absurd (c.if-not-can_stand_together.ensures k.storable)))

pub returns-then-not-is_fetched : goal.returns-then-not-is_fetched
returns-then-not-is_fetched c g is written also nested = (
  (λ told. absurd (false≢true told)),
  (λ k. absurd (false≢true ((c.if-not-is_fetched.ensures g is).1 (k.upper.maps.source, k.upper.included)))),
)

pub returns-then-not-is_fetched-2 : goal.returns-then-not-is_fetched-2
returns-then-not-is_fetched-2 c g is written also nested = (
  (λ told. absurd (false≢true told)),
  (λ k. absurd (false≢true ((c.if-not-is_fetched-2.ensures g is).1 (k.lower.maps.source, k.lower.included)))),
)

pub returns-then-not-branch : goal.returns-then-not-branch
returns-then-not-branch c g is written also nested =
    let s = start_of c.args.upper.now in
    let t = start_of c.args.lower.now in
    let two = c.args.two.now in
    let at = reading_of_spec two.group.now.specs.now two.upper _ c.spec_at.ensures in
    let named = both_named _ _ (refs_of s) (refs_of t) (rw c.new-items.ensures.items at c.in_ok-add_item.ensures)
    c.in_ok-add_item-2.ensures in (
      (λ told. absurd (false≢true told)),
      (λ k. absurd (false≢true (sym c.if-not-branch.true ∙ (rw c.new.ensures at c.in_ok-makes.ensures).1
          (makes_named g _ is.completed two.upper two.lower _ s t _ (rw c.as_slice-refs.ensures.value named) two.upper _
          at s k.upper)))),
    )

pub returns : goal.returns
returns c g is written also nested =
    let s = start_of c.args.upper.now in
    let t = start_of c.args.lower.now in
    let two = c.args.two.now in
    let refs = map ref_of c.as_slice-refs.result.now in
    let named : HaveSameNames refs (refs_of s ++ refs_of t) = rw c.as_slice-refs.ensures.value
    (both_named _ _ (refs_of s) (refs_of t) (rw c.new-items.ensures.items at c.in_ok-add_item.ensures)
    c.in_ok-add_item-2.ensures) in
    IfOk-weaker c.makes-2.result _ _
    (λ does told. (
      (λ yes. nest_made g _ is.completed two.upper two.lower refs s t _ _ named _ _
          (reading_of_spec two.group.now.specs.now two.upper _ c.spec_at.ensures)
          (reading_of_spec two.group.now.specs.now two.lower _ c.spec_at-2.ensures)
          c.if-not-can_stand_together.ensures
          ((c.if-not-is_fetched.ensures g is).0 refl) ((c.if-not-is_fetched-2.ensures g is).0 refl) written also nested
          ((rw c.new.ensures at c.in_ok-makes.ensures).0 c.if-not-branch.false) (told.0 yes)),
      (λ k. told.1 (makes_named g _ is.completed two.upper two.lower refs s t _ named two.lower _
          (reading_of_spec two.group.now.specs.now two.lower _ c.spec_at-2.ensures) t k.lower)),
    ))
    (rw c.new-2.ensures at c.makes-2.ensures)
