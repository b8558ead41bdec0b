-- The text is appended as it is, or in quotes.
use Rattle.std.proofs.Common.{inr, refl}
use Rattle.refspec_io.specs.Shown.{in_quotes}
use Rattle.refspec_io.proofs.ShownLemmas.{on_ok}
use Rattle.refspec_io.proofs.quote.write_quoted.Goals as goal

pub returns : goal.returns
returns c = on_ok c.write_in_quotes.result _ _ c.write_in_quotes.ensures
    (λ write. (in_quotes c.args.text.now, inr refl, write))
