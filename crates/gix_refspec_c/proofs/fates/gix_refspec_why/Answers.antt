-- The slices get the listing of the effects, and the outcome is the number of the result.
use Rattle.std.proofs.Common.{Err, inl, inr, refl}
use Rattle.std.proofs.lemmas.Result.{IfErr-weaker, on_ok_weaker}
use Rattle.gix_refspec_c.specs.Fates.{effects_in}
use Rattle.gix_refspec_c.proofs.fates.gix_refspec_why.Goals as goal

pub returns-in-Ok : goal.returns-in-Ok
returns-in-Ok c =
    let shown = effects_in c.in-Ok.listing in (
      c.write_effects.result,
      c.outcome_of.ensures,
      on_ok_weaker c.write_effects.result (λ write. (shown, c.in-Ok.ensures.ok, write)) c.write_effects.ensures.ok,
      IfErr-weaker c.write_effects.result _ _ (λ f small. inl (small.0, shown, c.in-Ok.ensures.ok, small.1))
          c.write_effects.ensures.small,
    )

pub returns-in-Err : goal.returns-in-Err
returns-in-Err c = (Err c.in-Err.failure, c.number.ensures, tt, inr (c.in-Err.ensures.err, refl))
