-- The answer is written, or the failure is told.
use Rattle.std.proofs.Common.{List, ℕ, subst, sym}
use Rattle.gix_refspec_c.specs.Making.{IsMadeOf, IsUnmadeOf}
use Rattle.gix_refspec_c.specs.Reading.{code_of}
use Rattle.gix_refspec_c.specs.Sides.{sides_in}
use Rattle.gix_refspec_c.proofs.AnswerLemmas.{answered_by_none, answered_with}
use Rattle.gix_refspec_c.proofs.making.gix_refspec_from_parts.Goals as goal

pub returns-in-Ok : goal.returns-in-Ok
returns-in-Ok c =
    answered_with code_of c.args.operation (λ op. IsMadeOf op (sides_in c.args.sides.now))
    (λ op. IsUnmadeOf op (sides_in c.args.sides.now)) _ c.in-Some.operation c.in-Some.ensures c.args.buffer.now
    c.write.new.buffer c.as_bytes.result.now c.args.len.now c.write.new.len c.write.result c.outcome_of.result
    (subst (λ (t : List ℕ). IsMadeOf c.in-Some.operation (sides_in c.args.sides.now) t) (sym c.as_bytes.ensures)
    c.in-Ok.ensures.ok)
    c.outcome_of.ensures c.write.ensures.ok c.write.ensures.small

pub returns-in-Err : goal.returns-in-Err
returns-in-Err c =
    answered_by_none code_of c.args.operation (λ op. IsMadeOf op (sides_in c.args.sides.now))
    (λ op. IsUnmadeOf op (sides_in c.args.sides.now)) _ c.in-Some.operation c.in-Some.ensures c.args.buffer.now
    c.args.len.now c.number-in-Err.result c.in-Err.failure c.number-in-Err.ensures c.in-Err.ensures.err.0
    c.in-Err.ensures.err.1
