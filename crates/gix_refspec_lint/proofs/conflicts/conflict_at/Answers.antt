use Rattle.gix_refspec_lint.proofs.Common.{map, take_all, refl, sym, ap, ◌∙◌, arith, AllByRecursion, eqb-true}
use Rattle.gix_refspec_lint.proofs.Common.{false≢true, nil_from_length, bstr_bytes, one_more_mapped, start_of, length}
use Rattle.gix_refspec_lint.proofs.Common.{◌<◌}
use Rattle.gix_refspec_lint.proofs.lemmas.FoundLemmas.{NoConflict, copied_example, none_of_all, completed_of, makes_of}
use Rattle.gix_refspec_lint.proofs.lemmas.SourceLemmas.{none_contained}
use Rattle.gix_refspec.proofs.lemmas.validate.ConflictLemmas.{copied_source}
use Rattle.gix_refspec_lint.proofs.conflicts.conflict_at.Goals as goal

pub returns-then-is_empty : goal.returns-then-is_empty
returns-then-is_empty c g is s t k =
    let others = c.in_ok-others.others in
    let (r, done) = completed_of g _ is c.args.second c.index-group-second.result c.requires.1 in
    none_contained t
    (ap (map start_of)
    (nil_from_length others.items
    (omega (arith, eqb-true _ 0 (sym c.if-is_empty.ensures), others.ok.0, others.ok.1))))
    (rw c.as_bytes.ensures at (c.in_ok-others.ensures r done) _ t
    (makes_of g c.args.group.now is c.args.second _ c.requires.1 _ t _ k.other))

pub returns-then-branch : goal.returns-then-branch
returns-then-branch c g is =
    copied_example g _ _ _ _ _ _ _ _ c.requires.0 (copied_source _ _ c.in_ok-clone.ensures.keeps)
    (copied_source _ _ c.in_ok-clone-2.ensures.keeps) c.in_ok-from_slice.ensures
    ((c.in_ok-do_conflict.ensures g is (c.if-not-is_below_refs.ensures.0 refl)).0 c.if-branch.true)

pub loop-other-preserved : goal.loop-other-preserved
loop-other-preserved c g is =
    one_more_mapped start_of (NoConflict g c.args.first c.args.second (bstr_bytes c.args.destination)
    (start_of c.one-item.result)) _ _ _ (c.loop-other.invariant g is) c.loop-other-test.true c.other-item.is
    (λ k. false≢true
    (sym c.if-branch.false ∙ (c.in_ok-do_conflict.ensures g is (c.if-not-is_below_refs.ensures.0 refl)).1 k))

pub loop-one-preserved : goal.loop-one-preserved
loop-one-preserved c g is =
    one_more_mapped start_of
    (λ s. AllByRecursion (NoConflict g c.args.first c.args.second (bstr_bytes c.args.destination) s)
    (map start_of c.in_ok-others.others.items)) _ _ _
    (c.loop-one.invariant g is) c.loop-one-test.true c.one-item.is
    (rw (
      take_all c.loop-other.other-index c.deref-other-items.result.now (omega arith),
      c.deref-other-items.ensures.value,
    ) at (c.loop-other.invariant g is))

pub returns : goal.returns
returns c g is =
    let below : c.args.first < length c.args.group.now.specs.now = omega (arith, c.requires.0, c.requires.1) in
    let (q, made) = completed_of g c.args.group.now is c.args.first c.index-group-first.result below in
    let (r, done) = completed_of g c.args.group.now is c.args.second c.index-group-second.result c.requires.1 in
    none_of_all g _ _ _ (map start_of c.in_ok-ones.ones.items) (map start_of c.in_ok-others.others.items)
    (rw (take_all c.loop-one.one-index c.deref-one-items.result.now (omega arith), c.deref-one-items.ensures.value) at
    (c.loop-one.invariant g is))
    (λ s t k. (
      rw c.as_bytes-2.ensures at (c.in_ok-ones.ensures q made) _ s
          (makes_of g c.args.group.now is c.args.first _ below _ s _ k.one),
      rw c.as_bytes.ensures at (c.in_ok-others.ensures r done) _ t
          (makes_of g c.args.group.now is c.args.second _ c.requires.1 _ t _ k.other),
    ))
