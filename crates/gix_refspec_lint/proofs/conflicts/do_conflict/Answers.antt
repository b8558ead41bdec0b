use Rattle.gix_refspec_lint.proofs.Common.{map, refl, sym, ◌∙◌, false≢true, IfOk-weaker, ref_of, start_of, refs_of}
use Rattle.gix_refspec_lint.proofs.Common.{HaveSameNames, ◌++◌}
use Rattle.gix_refspec_lint.proofs.lemmas.FoundLemmas.{both_named, conflict_made, makes_named}
use Rattle.gix_refspec_lint.proofs.lemmas.IndexLemmas.{reading_at}
use Rattle.gix_refspec_lint.proofs.conflicts.do_conflict.Goals as goal

pub returns-then-not-can_stand_together : goal.returns-then-not-can_stand_together
returns-then-not-can_stand_together c g is written =
    ((λ told. absurd (false≢true told)), (λ k. absurd (c.if-not-can_stand_together.ensures k.storable)))

pub returns-then-not-is_fetched : goal.returns-then-not-is_fetched
returns-then-not-is_fetched c g is written = (
  (λ told. absurd (false≢true told)),
  (λ k. absurd (false≢true ((c.if-not-is_fetched.ensures g is).1 (k.one.maps.source, k.one.included)))),
)

pub returns-then-not-is_fetched-2 : goal.returns-then-not-is_fetched-2
returns-then-not-is_fetched-2 c g is written = (
  (λ told. absurd (false≢true told)),
  (λ k. absurd (false≢true ((c.if-not-is_fetched-2.ensures g is).1 (k.other.maps.source, k.other.included)))),
)

pub returns-then-not-branch : goal.returns-then-not-branch
returns-then-not-branch c g is written =
    let s = start_of c.args.one.now in
    let t = start_of c.args.other.now in
    let at = reading_at c.args.group.now.specs.now c.args.first c.index-group-first.result c.requires.0 in
    let named = both_named _ _ (refs_of s) (refs_of t) (rw c.new-items.ensures.items at c.in_ok-add_item.ensures)
    c.in_ok-add_item-2.ensures in (
      (λ told. absurd (false≢true told)),
      (λ k. absurd (false≢true (sym c.if-not-branch.true ∙ c.in_ok-makes.ensures.1
          (makes_named g _ is.completed c.args.first c.args.second _ s t _ (rw c.as_slice-refs.ensures.value named)
          c.args.first _ at s k.one)))),
    )

pub returns : goal.returns
returns c g is written =
    let s = start_of c.args.one.now in
    let t = start_of c.args.other.now in
    let refs = map ref_of c.as_slice-refs.result.now in
    let named : HaveSameNames refs (refs_of s ++ refs_of t) = rw c.as_slice-refs.ensures.value
    (both_named _ _ (refs_of s) (refs_of t) (rw c.new-items.ensures.items at c.in_ok-add_item.ensures)
    c.in_ok-add_item-2.ensures) in
    IfOk-weaker c.makes-2.result _ _
    (λ does told. (
      (λ yes. conflict_made g _ is.completed c.args.first c.args.second refs s t _ named _ _
          (reading_at _ _ c.index-group-first.result c.requires.0)
          (reading_at _ _ c.index-group-second.result c.requires.1)
          (λ same. false≢true (sym c.if-same_source.false
          ∙ c.same_source.ensures.1 same)) c.if-not-can_stand_together.ensures
          ((c.if-not-is_fetched.ensures g is).0 refl) ((c.if-not-is_fetched-2.ensures g is).0 refl) written
          (c.in_ok-makes.ensures.0 c.if-not-branch.false) (told.0 yes)),
      (λ k. told.1 (makes_named g _ is.completed c.args.first c.args.second refs s t _ named c.args.second _
          (reading_at _ _ c.index-group-second.result c.requires.1) t k.other)),
    ))
    c.makes-2.ensures
