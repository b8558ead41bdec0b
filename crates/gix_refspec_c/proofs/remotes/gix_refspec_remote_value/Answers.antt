-- The answer is written, or the failure is told.
use Rattle.std.proofs.Common.{List, ℕ, subst, sym}
use Rattle.gix_refspec_c.specs.Values.{IsNoValue, IsValue, value_code}
use Rattle.gix_refspec_c.proofs.AnswerLemmas.{answered_by_none, answered_with}
use Rattle.gix_refspec_c.proofs.remotes.gix_refspec_remote_value.Goals as goal

pub returns-in-Ok : goal.returns-in-Ok
returns-in-Ok c =
    answered_with value_code c.args.value (λ v. IsValue v c.args.remote.now c.args.branch.now)
    (λ v. IsNoValue v c.args.remote.now c.args.branch.now) _ c.in-Some.value c.in-Some.ensures c.args.buffer.now
    c.write.new.buffer c.as_bytes.result.now c.args.len.now c.write.new.len c.write.result c.outcome_of.result
    (subst (λ (t : List ℕ). IsValue c.in-Some.value c.args.remote.now c.args.branch.now t) (sym c.as_bytes.ensures)
    c.in-Ok.ensures.ok)
    c.outcome_of.ensures c.write.ensures.ok c.write.ensures.small

pub returns-in-Err : goal.returns-in-Err
returns-in-Err c =
    answered_by_none value_code c.args.value (λ v. IsValue v c.args.remote.now c.args.branch.now)
    (λ v. IsNoValue v c.args.remote.now c.args.branch.now) _ c.in-Some.value c.in-Some.ensures c.args.buffer.now
    c.args.len.now c.number-in-Err.result c.in-Err.failure c.number-in-Err.ensures c.in-Err.ensures.err.0
    c.in-Err.ensures.err.1
