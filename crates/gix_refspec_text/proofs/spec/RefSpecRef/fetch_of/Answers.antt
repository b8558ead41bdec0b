use Rattle.gix_refspec_text.proofs.{Common.arith, lemmas.specs.DestinationLemmas.read_alone}
use Rattle.gix_refspec_text.proofs.spec.RefSpecRef.fetch_of.Goals as goal

pub invariant_of-result : goal.invariant_of-result
invariant_of-result c = record { accepted = ∣ (grind (arith, read_alone)) ∣₁ }
