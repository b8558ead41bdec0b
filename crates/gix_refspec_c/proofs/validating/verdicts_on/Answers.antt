-- One more verdict.
use Rattle.std.proofs.Common.{List, ◌+◌, map, take, subst, sym}
use Rattle.std.specs.List.{AllZip}
use Rattle.gix_refspec_c.specs.declared.validating.PairVerdictOut.{PairVerdictOut}
use Rattle.gix_refspec_c.specs.Validating.{IsVerdict, mapped_in}
use Rattle.gix_refspec_c.proofs.ValidatingLemmas.{verdicts_more}
use Rattle.gix_refspec_c.proofs.validating.verdicts_on.Goals as goal

pub loop-pair-preserved : goal.loop-pair-preserved
loop-pair-preserved c =
    let l = map mapped_in c.args.pairs.now in
    let more = verdicts_more c.args.pairs.now c.loop-pair.pair-index _ c.loop-pair-test.true l
    c.loop-pair.verdicts.items _ c.loop-pair.invariant (c.verdict_on.ensures l c.in_ok-conflicts.ensures) in
    subst (λ (vs : List PairVerdictOut). AllZip (IsVerdict l)
    (map mapped_in (take (c.loop-pair.pair-index + 1) c.args.pairs.now)) vs) (sym c.in_ok-push.ensures.items) more
