-- Lists that a relation makes of lists, element by element and in order. The relation gets each
-- element's index.
use Rattle.std.specs.Prelude.{◌≡◌, ℕ, ◌+◌, List, [], ◌∷◌, ◌++◌, Option, MatchOption, option_to_list}

-- the relation makes y of the element x at index k, or, where there is no y, nothing
abbrev pub MakesOf : {X Y : Type 0} → (ℕ → X → Y → Type 0) → ℕ → X → Option Y → Type 0
MakesOf {X} {Y} R k x made = MatchOption made ((y : Y) → ¬ (R k x y)) (R k x)

-- ys is what the relation makes of each element in turn; the first one's index is k
abbrev pub IsMadeFrom : {X Y : Type 0} → (ℕ → X → Y → Type 0) → ℕ → List X → List Y → Type 0
IsMadeFrom R k [] ys = ys ≡ []
IsMadeFrom {X} {Y} R k (x ∷ xs) ys = (made : Option Y) × (rest : List Y) × MakesOf R k x made
    × IsMadeFrom R (k + 1) xs rest × (ys ≡ option_to_list made ++ rest)

-- ys joins the lists that the relation makes of each element in turn; the first one's index is k
abbrev pub IsJoinedFrom : {X Y : Type 0} → (ℕ → X → List Y → Type 0) → ℕ → List X → List Y → Type 0
IsJoinedFrom R k [] ys = ys ≡ []
IsJoinedFrom {X} {Y} R k (x ∷ xs) ys = (made : List Y) × (rest : List Y) × R k x made × IsJoinedFrom R (k + 1) xs rest
    × (ys ≡ made ++ rest)
