use Rattle.gix_refspec_text.proofs.Common.{ℕ, List, Some, sym, subst, Fetch, Normal, IsAccepted}
use Rattle.gix_refspec_text.proofs.lemmas.specs.DestinationLemmas.{all_tags_accepted}
use Rattle.gix_refspec_text.proofs.spec.RefSpecRef.fetch_of_all_tags.Goals as goal

pub invariant_of-result : goal.invariant_of-result
invariant_of-result c =
    record {
      accepted =
          ∣ subst (λ (n : List ℕ). IsAccepted
          (record { operation = Fetch; mode = Normal; source = Some n; destination = Some n }))
          (sym c.new-pattern.ensures)
          all_tags_accepted ∣₁;
    }
