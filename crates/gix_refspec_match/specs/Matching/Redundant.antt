-- Lists of texts that stand for all names which begin with one of them, as ref prefixes do: which of the texts are
-- needed.
use Rattle.std.specs.Prelude.{◌≡◌, ◌≢◌, ◌⊎◌, ◌<◌, ℕ, List, [], ◌∷◌, Some}
use Rattle.std.specs.List.{AllByRecursion, Any, slice_get}
use Rattle.gix_refspec_text.specs.Texts.Words.{BeginsWith}
use Rattle.gix_refspec_match.specs.Matching.Lists.{IsMadeFrom}

-- the text at index k begins with another one, which is shorter, or equal and earlier
pub record IsRedundant (texts : List (List ℕ)) (k : ℕ) : Type 0 where
  pub text : List ℕ
  pub here : slice_get texts k ≡ Some text
  pub index : ℕ
  pub other : List ℕ
  pub there : slice_get texts index ≡ Some other
  pub begins : BeginsWith other text
  pub ahead : (other ≢ text) ⊎ (index < k)

-- the text at index k is left as it is, as it isn't redundant
abbrev pub IsNeededAt : List (List ℕ) → ℕ → List ℕ → List ℕ → Type 0
IsNeededAt texts k text made = (made ≡ text) × ¬ (IsRedundant texts k)

-- those of the texts that aren't redundant, in order; each text begins with one of these
pub record AreNeeded (texts needed : List (List ℕ)) : Type 0 where
  pub are : IsMadeFrom (IsNeededAt texts) 0 texts needed
  pub begin : AllByRecursion (λ text. Any (λ p. BeginsWith p text) needed) texts

-- no text begins with another one
abbrev pub NoneBeginsAnother : List (List ℕ) → Type 0
NoneBeginsAnother [] = Unit {0}
NoneBeginsAnother (p ∷ texts) =
    AllByRecursion (λ q. ¬ (BeginsWith p q) × ¬ (BeginsWith q p)) texts × NoneBeginsAnother texts
