-- The text is UTF-8 and appended as it is or in quotes, or it isn't and appended in quotes.
use Rattle.std.proofs.Common.{inr, refl}
use Rattle.refspec_io.specs.Shown.{in_quotes}
use Rattle.refspec_io.proofs.JsonLemmas.{IsUtf8-in_quotes, IsUtf8-quoted}
use Rattle.refspec_io.proofs.ShownLemmas.{on_ok}
use Rattle.refspec_io.proofs.quote.write_text.Goals as goal

pub returns-in-Ok : goal.returns-in-Ok
returns-in-Ok c = on_ok c.write_quoted.result _ _ c.write_quoted.ensures
    (λ write. (
      write.0,
      (write.1, IsUtf8-quoted c.args.text.now write.0 (λ k. (c.type_inv.text k).fits) c.in-Ok.ensures.cases.1 write.1),
      write.2,
    ))

pub returns-in-Err : goal.returns-in-Err
returns-in-Err c = on_ok c.write_in_quotes.result _ _ c.write_in_quotes.ensures
    (λ write. (
      in_quotes c.args.text.now,
      (inr refl, IsUtf8-in_quotes c.args.text.now (λ k. (c.type_inv.text k).fits)),
      write,
    ))
