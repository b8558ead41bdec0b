-- The verdicts are written, and the outcome tells whether one is of a conflict.
use Rattle.std.proofs.Common.{List, map, refl, subst, sym}
use Rattle.gix_refspec_c.specs.declared.validating.PairVerdictOut.{PairVerdictOut}
use Rattle.gix_refspec_c.specs.Validating.{HaveVerdicts, mapped_in, no_memory}
use Rattle.gix_refspec_c.proofs.ValidatingLemmas.{verdicts_unwritten, verdicts_written}
use Rattle.gix_refspec_c.proofs.validating.gix_refspec_validate.Goals as goal

pub returns-in_default : goal.returns-in_default
returns-in_default c = no_memory c.number.ensures refl

pub returns-in-Ok-write : goal.returns-in-Ok-write
returns-in-Ok-write c =
    let l = map mapped_in c.args.pairs.now in
    verdicts_written l c.as_slice-found.result.now c.args.verdicts.now c.write.new.buffer c.write.new.len
    c.outcome_of_all.result
    (subst (λ (vs : List PairVerdictOut). HaveVerdicts l vs) (sym c.as_slice-found.ensures.value) c.in-Ok.ensures)
    c.in-Ok-write.ensures.ok c.outcome_of_all.ensures.conflict c.outcome_of_all.ensures.free

pub returns : goal.returns
returns c =
    let l = map mapped_in c.args.pairs.now in
    verdicts_unwritten l c.as_slice-found.result.now c.args.verdicts.now c.write.new.buffer c.write.new.len
    c.number-in-Err.result
    (subst (λ (vs : List PairVerdictOut). HaveVerdicts l vs) (sym c.as_slice-found.ensures.value) c.in-Ok.ensures)
    c.in-Err.failure c.number-in-Err.ensures c.in-Err.ensures.small.0 c.in-Err.ensures.small.1
