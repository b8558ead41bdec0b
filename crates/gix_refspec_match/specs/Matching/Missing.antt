-- Sources that no ref has. Git fails then, with "couldn't find remote ref"; git-fetch(1) doesn't say so.
use Rattle.std.specs.Prelude.{◌≡◌, ◌⊎◌, ℕ, List, Option, Some}
use Rattle.std.specs.List.{Contains}
use Rattle.gix_refspec_text.specs.Specs.Reading.{Reading}
use Rattle.gix_refspec_text.specs.Specs.Grammar.{IsPositive}
use Rattle.gix_refspec_text.specs.Matching.Side.{HasKind, full_name, partial}
use Rattle.gix_refspec_text.specs.Matching.Match.{Ref, Matches}
use Rattle.gix_refspec_match.specs.Matching.Lists.{IsMadeFrom}

-- the source of a positive reading is a full or partial name, and matches none of the refs
pub record LacksSource (refs : List Ref) (r : Reading) : Type 0 where
  pub positive : IsPositive r.mode
  pub source : List ℕ
  pub is : r.source ≡ Some source
  pub named : HasKind source (full_name source) ⊎ HasKind source (partial source)
  pub absent : (ref : Ref) (word : Option (List ℕ)) → Contains refs ref → ¬ (Matches source ref word)

-- the indexes of the readings whose source no ref has, in order
abbrev pub AreMissing : List Reading → List Ref → List ℕ → Type 0
AreMissing g refs missing = IsMadeFrom (λ k r made. (made ≡ k) × LacksSource refs r) 0 g missing
