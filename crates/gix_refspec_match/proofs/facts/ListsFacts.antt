-- The words on lists that are made element by element, where nothing is left out, added or turned round, and on
-- prefixes at small lists of refs.
use Rattle.gix_refspec_match.proofs.Common.{List, [], ◌∷◌, None, Some, codes, refl, ◌≡◌, ℕ, sym, ◌∙◌, arith, rules}
use Rattle.gix_refspec_match.proofs.Common.{MakesOf, IsMadeFrom, IsJoinedFrom, ArePlacesBehind}
use Rattle.gix_refspec_match.proofs.lemmas.lists.JoinLemmas.{one_joined}
use Rattle.gix_refspec_match.proofs.lemmas.lists.ListsLemmas.{made_once}
use Rattle.gix_refspec_text.proofs.facts.FaultFacts.{begins_not}
use Rattle.gix_refspec_text.proofs.facts.ManualFacts.{named}

-- of the element 5 its place is made, and nothing of another element
abbrev pub PlaceOfFive : ℕ → ℕ → ℕ → Type 0
PlaceOfFive k x y = (x ≡ 5) × (y ≡ k)

-- what is made of an element is there, and where nothing is, nothing can be made. From place 7 on, the places of each 5
-- are made in order, and nothing else
pub made : MakesOf PlaceOfFive 7 5 (Some 7) × ¬ (MakesOf PlaceOfFive 7 5 None) × ¬ (MakesOf PlaceOfFive 7 6 (Some 7))
    × MakesOf PlaceOfFive 7 6 None
    × IsMadeFrom PlaceOfFive 7 (5 ∷ 6 ∷ 5 ∷ []) (7 ∷ 9 ∷ [])
    × ((ys : List ℕ) → IsMadeFrom PlaceOfFive 7 (5 ∷ 6 ∷ 5 ∷ []) ys → ys ≡ 7 ∷ 9 ∷ [])
made =
    let none_of_six : (k y : ℕ) → ¬ (PlaceOfFive k 6 y) = λ k y is. omega (arith, is.0) in
    let all : IsMadeFrom PlaceOfFive 7 (5 ∷ 6 ∷ 5 ∷ []) (7 ∷ 9 ∷ []) =
    (Some 7, _, (refl, refl), (None, _, none_of_six 8, (Some 9, [], (refl, refl), refl, refl), refl), refl) in (
      (refl, refl),
      (λ none. none 7 (refl, refl)),
      none_of_six 7 7,
      none_of_six 7,
      all,
      λ ys are. made_once PlaceOfFive
          (λ k x y z one other. one.1 ∙ sym other.1) 7 (5 ∷ 6 ∷ 5 ∷ []) ys (7 ∷ 9 ∷ []) are all,
    )

-- of each element its place and itself
abbrev pub PlaceAndElement : ℕ → ℕ → List ℕ → Type 0
PlaceAndElement k x ys = ys ≡ k ∷ x ∷ []

-- from place 7 on, the lists of each element, one after the other, and no others
pub joined : IsJoinedFrom PlaceAndElement 7 (5 ∷ 6 ∷ []) (7 ∷ 5 ∷ 8 ∷ 6 ∷ [])
    × ((ys : List ℕ) → IsJoinedFrom PlaceAndElement 7 (5 ∷ 6 ∷ []) ys → ys ≡ 7 ∷ 5 ∷ 8 ∷ 6 ∷ [])
joined =
    let all : IsJoinedFrom PlaceAndElement 7 (5 ∷ 6 ∷ []) (7 ∷ 5 ∷ 8 ∷ 6 ∷ []) =
    (_, _, refl, (_, [], refl, refl, refl), refl) in (
      all,
      λ ys are. one_joined PlaceAndElement (λ k x y z one other. one ∙ sym other) 7 (5 ∷ 6 ∷ []) ys
          (7 ∷ 5 ∷ 8 ∷ 6 ∷ []) are all,
    )

-- the prefix itself begins with it, and so does a longer name, but no other, and no place may be missing
pub places_after_a : ArePlacesBehind (codes "a") (named (codes "ab") ∷ named (codes "b") ∷ named (codes "a") ∷ [])
    (0 ∷ 2 ∷ []) × ¬ (ArePlacesBehind (codes "a") (named (codes "a") ∷ []) [])
places_after_a = (
  (
    Some 0,
    _,
    (search rules, refl),
    (
      None,
      _,
      (λ place both. begins_not (codes "a") (codes "b") refl both.0),
      (Some 2, [], (search rules, refl), refl, refl),
      refl,
    ),
    refl,
  ),
  search rules,
)
