-- Mappings between the refs of two repositories, and which of them are kept, by git-fetch(1) and
-- git-push(1) under `<refspec>`. That of equal mappings the first is kept, and that a push excludes as a
-- fetch does, are this project's own rules.
use Rattle.std.specs.Prelude.{◌≡◌, ◌⊎◌, ℕ, List, [], ◌∷◌, Option, Some, take}
use Rattle.std.specs.List.{AllByRecursion}
use Rattle.gix_refspec_text.specs.Specs.Reading.{Reading, Negative}
use Rattle.gix_refspec_text.specs.Matching.Side.{Excludes}
use Rattle.gix_refspec_match.specs.Matching.Lists.{IsMadeFrom}

-- what a mapping begins with: the name of a ref, or the id of an object
pub data Source : Type 0 where
  name : List ℕ → Source
  id : List ℕ → Source

-- a mapping: the index of its item, if it has one, its source, its destination, if it has one, and the
-- index of its spec
pub record Mapped : Type 0 where
  pub item : Option ℕ
  pub source : Source
  pub destination : Option (List ℕ)
  pub spec : ℕ

-- the reading is negative, and its source excludes the name
pub record IsExcludedBy (n : List ℕ) (r : Reading) : Type 0 where
  pub negative : r.mode ≡ Negative
  pub text : List ℕ
  pub source : r.source ≡ Some text
  pub excludes : Excludes text n

-- some reading of the group excludes the name
abbrev pub IsExcluded : List Reading → List ℕ → Type 0
IsExcluded [] n = ⊥
IsExcluded (r ∷ rs) n = IsExcludedBy n r ⊎ IsExcluded rs n

-- some reading of the group excludes the start, which none does to an id
abbrev pub IsSourceExcluded : List Reading → Source → Type 0
IsSourceExcluded g (name n) = IsExcluded g n
IsSourceExcluded g (id i) = ⊥

-- the mappings have the same source and the same destination
pub record IsSamePair (m other : Mapped) : Type 0 where
  pub source : m.source ≡ other.source
  pub destination : m.destination ≡ other.destination

-- one of the mappings has the same pair as m
abbrev pub HasPair : List Mapped → Mapped → Type 0
HasPair [] m = ⊥
HasPair (x ∷ xs) m = IsSamePair x m ⊎ HasPair xs m

-- no two of the mappings have the same pair
abbrev pub AreApart : List Mapped → Type 0
AreApart [] = Unit {0}
AreApart (m ∷ l) = AllByRecursion (λ x. ¬ (IsSamePair m x)) l × AreApart l

-- m, which is in the list at index k, is kept: no earlier mapping has its pair, and its source isn't
-- excluded
pub record IsKeptAt (g : List Reading) (l : List Mapped) (k : ℕ) (m : Mapped) : Type 0 where
  pub first : ¬ (HasPair (take k l) m)
  pub included : ¬ (IsSourceExcluded g m.source)

-- kept has the mappings of the list that are kept, in order
abbrev pub IsKept : List Reading → List Mapped → List Mapped → Type 0
IsKept g l kept = IsMadeFrom (λ k m made. (made ≡ m) × IsKeptAt g l k m) 0 l kept
