-- The answer is written, or the failure is told.
use Rattle.std.proofs.Common.{List, ℕ, subst, sym}
use Rattle.gix_refspec_text.specs.declared.parsing.Operation.TheVariants.{Fetch}
use Rattle.gix_refspec_c.specs.Remote.{IsInPlaceOf}
use Rattle.gix_refspec_c.specs.Single.{IsUnprinted}
use Rattle.gix_refspec_c.proofs.AnswerLemmas.{concluded, refused}
use Rattle.gix_refspec_c.proofs.prefetching.gix_refspec_prefetched.Goals as goal

pub returns-in-Ok : goal.returns-in-Ok
returns-in-Ok c =
    concluded (IsInPlaceOf c.args.text.now) (IsUnprinted Fetch c.args.text.now) c.args.buffer.now c.write.new.buffer
    c.as_bytes.result.now c.args.len.now c.write.new.len c.write.result c.outcome_of.result
    (subst (λ (t : List ℕ). IsInPlaceOf c.args.text.now t) (sym c.as_bytes.ensures) c.in-Ok.ensures.ok)
    c.outcome_of.ensures c.write.ensures.ok c.write.ensures.small

pub returns-in-Err : goal.returns-in-Err
returns-in-Err c = refused (IsInPlaceOf c.args.text.now) (IsUnprinted Fetch c.args.text.now) c.args.buffer.now
    c.args.len.now c.number.result c.in-Err.failure c.number.ensures c.in-Err.ensures.err.0 c.in-Err.ensures.err.1
