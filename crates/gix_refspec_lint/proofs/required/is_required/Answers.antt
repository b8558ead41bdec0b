-- A ref of each other spec that this one doesn't name makes a remote that lacks its source alone.
use Rattle.gix_refspec_lint.proofs.Common.{arith, length-map, map, reading_of, bstring_bytes, MatchBool-at_false}
use Rattle.gix_refspec_lint.proofs.Common.{MatchBool-at_true}
use Rattle.gix_refspec_lint.proofs.lemmas.IndexLemmas.{read_at}
use Rattle.gix_refspec_lint.proofs.lemmas.RequiredLemmas.{dispensable_by, dispensable_never, had_itself, had_next}
use Rattle.gix_refspec_lint.proofs.lemmas.RequiredLemmas.{required_by}
use Rattle.gix_refspec_lint.proofs.required.is_required.Goals.{then-at-index+in_ok-lacks_with+else-branch}
use Rattle.gix_refspec_lint.proofs.required.is_required.Goals.{else-at-index}
use Rattle.gix_refspec_lint.proofs.required.is_required.Goals as goal

pub returns-in_default : goal.returns-in_default
returns-in_default c =
    dispensable_never (map reading_of c.args.specs.now) c.args.index (reading_of c.index-specs-index.result)
    (read_at c.args.specs.now c.args.index c.index-specs-index.result c.requires c.index-specs-index.is)
    (rw c.in_default.is at c.in_ok-names.ensures)

pub returns-then-branch : goal.returns-then-branch
returns-then-branch c =
    let specs = c.args.specs.now in
    let named = rw c.in-Some.is at c.in_ok-names.ensures in
    dispensable_by (map reading_of specs) c.args.index (reading_of c.index-specs-index.result)
    (read_at specs c.args.index c.index-specs-index.result c.requires c.index-specs-index.is)
    c.loop-at.at (reading_of c.index-specs-at.result)
    (read_at specs c.loop-at.at c.index-specs-at.result c.loop-at-test.true c.index-specs-at.is) c.if-at-index.true
    (MatchBool-at_true _ _ c.if-branch.true
    (c.in_ok-lacks_with.ensures (reading_of c.index-specs-index.result) (rw c.as_slice.ensures.value named)))

pub loop-at-preserved : goal.loop-at-preserved
loop-at-preserved c =
    let specs = c.args.specs.now in
    let names = map bstring_bytes c.in-Some.names.items in
    let named = rw c.in-Some.is at c.in_ok-names.ensures in
    elim c.if-at-index.branch [
      | then-at-index+in_ok-lacks_with+else-branch w ↦ had_next (map reading_of specs) c.args.index names c.loop-at.at
          (reading_of w.index-specs-at.result)
          (read_at specs c.loop-at.at w.index-specs-at.result c.loop-at-test.true w.index-specs-at.is)
          (rw w.as_slice.ensures.value at
          (MatchBool-at_false _ _ w.if-branch.false
          (w.in_ok-lacks_with.ensures (reading_of c.index-specs-index.result)
          (rw w.as_slice.ensures.value named)))) c.loop-at.invariant
      | else-at-index w ↦ had_itself (map reading_of specs) c.args.index names c.loop-at.at
          (omega (arith, w.if-at-index.false)) c.loop-at.invariant
    ]

pub returns : goal.returns
returns c =
    let specs = c.args.specs.now in
    required_by (map reading_of specs) c.args.index (reading_of c.index-specs-index.result)
    (map bstring_bytes c.in-Some.names.items) c.loop-at.at
    (read_at specs c.args.index c.index-specs-index.result c.requires c.index-specs-index.is)
    (rw c.in-Some.is at c.in_ok-names.ensures)
    (omega (arith, length-map specs reading_of, c.loop-at-test.false)) c.loop-at.invariant
