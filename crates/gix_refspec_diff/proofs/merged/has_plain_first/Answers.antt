use Rattle.gix_refspec_diff.proofs.Common.{arith, get_or, inl, length, reading_of, sym, ◌∙◌}
use Rattle.gix_refspec_lint.proofs.Common.{HasPlainSource, accepted_few, eqb-false, eqb-true}
use Rattle.gix_refspec_lint.proofs.lemmas.IndexLemmas.{reading_at}
use Rattle.gix_refspec_diff.proofs.lemmas.MergeLemmas.{none_plain, starred}
use Rattle.gix_refspec_diff.proofs.merged.has_plain_first.Goals as goal

pub returns-then-is_empty : goal.returns-then-is_empty
returns-then-is_empty c =
    none_plain c.args.group.now.specs.now (eqb-true _ 0 (sym c.is_empty.ensures ∙ c.if-is_empty.true))

pub parts_of-requires : goal.parts_of-requires
parts_of-requires c x is =
    let spec = get_or c.args.group.now.specs.now 0 c.index-group-0.result in
    accepted_few (reading_of spec) x spec.accepted (inl (sym c.source.ensures ∙ is))

pub returns-in-None : goal.returns-in-None
returns-in-None c =
    let specs = c.args.group.now.specs.now in
    let plain : HasPlainSource (reading_of (get_or specs 0 c.index-group-0.result)) =
    rw c.source.ensures at c.in-None.ensures in (
      _,
      reading_at specs 0 c.index-group-0.result
          (omega (arith, eqb-false (length specs) 0 (sym c.is_empty.ensures ∙ c.if-is_empty.false))),
      plain,
    )

pub returns-in-Some : goal.returns-in-Some
returns-in-Some c =
    let specs = c.args.group.now.specs.now in
    let (x, has, split) = c.in-Some.ensures in
    starred _ _ x _ _
    (reading_at specs 0 c.index-group-0.result
    (omega (arith, eqb-false (length specs) 0 (sym c.is_empty.ensures ∙ c.if-is_empty.false))))
    (sym c.source.ensures ∙ has) split
