-- By the sources from which each spec may write its destination.
use Rattle.gix_refspec_lint.proofs.Common.{◌++◌, append-nil, refs_of, map, take_all, refl, sym, ap, ◌∙◌, arith}
use Rattle.gix_refspec_lint.proofs.Common.{AllByRecursion, eqb-true, false≢true, nil_from_length, one_more_mapped}
use Rattle.gix_refspec_lint.proofs.Common.{start_of}
use Rattle.gix_refspec_lint.proofs.lemmas.SourceLemmas.{none_contained}
use Rattle.gix_refspec_lint.proofs.lemmas.NestFoundLemmas.{NoNesting, completed_spec, copied_nesting, none_of_pairs}
use Rattle.gix_refspec_lint.proofs.lemmas.NestFoundLemmas.{none_there, spec_makes}
use Rattle.gix_refspec.proofs.lemmas.validate.ConflictLemmas.{copied_source}
use Rattle.gix_refspec_lint.specs.Matching.Lint.{NestingOver}
use Rattle.gix_refspec_lint.proofs.nestings.nesting_at.Goals as goal

pub returns-then-not-is_directory_of : goal.returns-then-not-is_directory_of
returns-then-not-is_directory_of c g is =
    none_there g _ _ _ _
    (λ s t k. false≢true (sym c.if-not-is_directory_of.true ∙ c.is_directory_of.ensures.1 k.nested))

pub returns-then-is_empty : goal.returns-then-is_empty
returns-then-is_empty c g is =
    let two = c.args.two.now in
    let uppers = c.in_ok-uppers.uppers in
    let (r, done) = completed_spec g two.group.now is two.upper _ c.spec_at.ensures in
    none_there g _ _ _ _
    (λ s t k. none_contained s
    (ap (map start_of)
    (nil_from_length uppers.items
    (omega (arith, eqb-true _ 0 (sym c.if-is_empty.ensures), uppers.ok.0, uppers.ok.1))))
    (c.in_ok-uppers.ensures r done _ s (spec_makes g two.group.now is two.upper _ c.spec_at.ensures _ s _ k.upper)))

pub returns-then-not-are_written : goal.returns-then-not-are_written
returns-then-not-are_written c g is =
    none_there g _ _ _ _
    (λ s t k. false≢true
    (sym c.if-not-are_written.true ∙ c.are_written.ensures.1 (k.upper.maps.destination, k.lower.maps.destination)))

pub returns-then-branch : goal.returns-then-branch
returns-then-branch c g is =
    let two = c.args.two.now in
    let names = c.args.names.now in
    let s = start_of c.upper-item.result in
    let t = start_of c.lower-item.result in
    let (written, also) = c.if-not-are_written.ensures.0 refl in
    let over : NestingOver g (refs_of s ++ refs_of t) two.upper two.lower s t names.directory.now names.nested.now =
    (c.in_ok-do_nest.ensures g is written also (c.if-not-is_directory_of.ensures.0 refl)).0 c.if-branch.true in
    copied_nesting g two.upper two.lower s t _ _ names.directory.now names.nested.now _ _
    (copied_source _ _ c.in_ok-clone.ensures.keeps) (copied_source _ _ c.in_ok-clone-2.ensures.keeps)
    (c.in_ok-joined.ensures ∙ append-nil _) (c.in_ok-joined-2.ensures ∙ append-nil _) over

pub loop-lower-preserved : goal.loop-lower-preserved
loop-lower-preserved c g is =
    let two = c.args.two.now in
    let (written, also) = c.if-not-are_written.ensures.0 refl in
    one_more_mapped start_of (NoNesting g two.upper two.lower c.args.names.now.directory.now c.args.names.now.nested.now
    (start_of c.upper-item.result)) _ _ _ (c.loop-lower.invariant g is) c.loop-lower-test.true c.lower-item.is
    (λ k. false≢true
    (sym c.if-branch.false ∙ (c.in_ok-do_nest.ensures g is written also (c.if-not-is_directory_of.ensures.0 refl)).1
    k))

pub loop-upper-preserved : goal.loop-upper-preserved
loop-upper-preserved c g is =
    let two = c.args.two.now in
    one_more_mapped start_of
    (λ s. AllByRecursion (NoNesting g two.upper two.lower c.args.names.now.directory.now c.args.names.now.nested.now
    s) (map start_of c.in_ok-lowers.lowers.items)) _ _ _
    (c.loop-upper.invariant g is) c.loop-upper-test.true c.upper-item.is
    (rw (
      take_all c.loop-lower.lower-index c.deref-lower-items.result.now (omega arith),
      c.deref-lower-items.ensures.value,
    ) at (c.loop-lower.invariant g is))

pub returns : goal.returns
returns c g is =
    let two = c.args.two.now in
    let (q, made) = completed_spec g two.group.now is two.upper _ c.spec_at.ensures in
    let (r, done) = completed_spec g two.group.now is two.lower _ c.spec_at-2.ensures in
    none_there g _ _ _ _ (none_of_pairs g _ _ _ _ (map start_of c.in_ok-uppers.uppers.items)
    (map start_of c.in_ok-lowers.lowers.items)
    (rw (
      take_all c.loop-upper.upper-index c.deref-upper-items.result.now (omega arith),
      c.deref-upper-items.ensures.value,
    ) at (c.loop-upper.invariant g is))
    (λ s t k. (
      c.in_ok-uppers.ensures q made _ s (spec_makes g two.group.now is two.upper _ c.spec_at.ensures _ s _ k.upper),
      c.in_ok-lowers.ensures r done _ t (spec_makes g two.group.now is two.lower _ c.spec_at-2.ensures _ t _ k.lower),
    )))
