-- Some effect, or none, stores it.
use Rattle.std.proofs.Common.{List, MatchBool, subst}
use Rattle.gix_refspec_why.specs.declared.Effect.{Effect}
use Rattle.refspec_commands.specs.Fates.{WritesNone, WritesSome}
use Rattle.refspec_commands.proofs.fates.answer.Answer.is_stored.Goals as goal

pub returns : goal.returns
returns c =
    subst (λ (l : List Effect). MatchBool c.has_written.result (WritesSome l) (WritesNone l)) c.as_slice.ensures.value
    c.has_written.ensures
