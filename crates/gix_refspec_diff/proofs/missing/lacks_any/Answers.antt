use Rattle.gix_refspec_diff.proofs.Common.{MatchBool-at_false, MatchBool-at_true, arith, bstring_bytes, map}
use Rattle.gix_refspec_diff.proofs.Common.{reading_of, take_all}
use Rattle.gix_refspec_lint.proofs.lemmas.IndexLemmas.{read_at}
use Rattle.gix_refspec_diff.proofs.lemmas.KnownLemmas.{contained_at}
use Rattle.gix_refspec_diff.proofs.lemmas.LackLemmas.{had_pushed, none_had}
use Rattle.gix_refspec_diff.proofs.missing.lacks_any.Goals as goal

pub loop-spec-init : goal.loop-spec-init
loop-spec-init c r named = none_had (map bstring_bytes c.args.names.now)

pub returns-then-branch : goal.returns-then-branch
returns-then-branch c r named = (
  reading_of c.spec-item.result,
  contained_at (map reading_of c.args.specs.now) c.loop-spec.spec-index _
      (read_at c.args.specs.now c.loop-spec.spec-index c.spec-item.result c.loop-spec-test.true c.spec-item.is),
  MatchBool-at_true _ _ c.if-branch.true (c.in_ok-lacks_with.ensures r named),
)

pub loop-spec-preserved : goal.loop-spec-preserved
loop-spec-preserved c r named =
    had_pushed c.args.specs.now c.loop-spec.spec-index c.spec-item.result _ c.loop-spec-test.true c.spec-item.is
    (MatchBool-at_false _ _ c.if-branch.false (c.in_ok-lacks_with.ensures r named)) (c.loop-spec.invariant r named)

pub returns : goal.returns
returns c r named = rw (take_all c.loop-spec.spec-index c.args.specs.now (omega arith)) at
    (c.loop-spec.invariant r named)
