-- What is fetched without specs, and local refs that no spec could write.
use Rattle.gix_refspec_plan.proofs.Common.{◌≡◌, ℕ, false, List, [], ◌∷◌, inl, inr, length, refl, arith, ap, Default}
use Rattle.gix_refspec_plan.proofs.Common.{fetched_alone, head}
use Rattle.gix_refspec_plan.proofs.facts.ExampleLemmas.{one_in}
use Rattle.gix_refspec_plan.specs.Matching.Plan.{Asked, AreConfigured, Wish, by_configuration, by_default}
use Rattle.gix_refspec_plan.specs.Matching.Stale.{IsKeptBy, IsSourceOf}
use Rattle.gix_refspec_text.proofs.facts.FitFacts.{no_dev}
use Rattle.gix_refspec_text.specs.Matching.Match.{Ref}

abbrev nothing : Wish
nothing = record { given = []; configured = []; merges = []; tags = false }

abbrev head_by_default : Asked
head_by_default = record { reading = fetched_alone head; origin = Default }

-- `HEAD`, by default, and nothing else
pub default : (refs : List Ref) → AreConfigured nothing refs (head_by_default ∷ []) × ¬ (AreConfigured nothing refs [])
default refs = (by_default refl refl refl, no_default)
  where
    no_default : ¬ (AreConfigured nothing refs [])
    no_default (by_configuration configured merges (inl some) those uncovered all) = some refl
    no_default (by_configuration configured merges (inr some) those uncovered all) = some refl
    no_default (by_default none also_none is) = omega (arith, ap length is)

no_source : (n s : List ℕ) → ¬ (IsSourceOf (no_dev ∷ []) n s)
no_source n s (r, there, from) = rw (one_in no_dev r there) at from.writes.positive

-- a negative spec keeps no local ref that no other spec could write, although it excludes branches
pub not_kept : (remote : List Ref) (n : List ℕ) (k : ℕ) → ¬ (IsKeptBy (no_dev ∷ []) remote n k)
not_kept remote n k by = no_source n by.source by.is_source
