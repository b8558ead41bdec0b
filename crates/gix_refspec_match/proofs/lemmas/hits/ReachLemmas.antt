-- What a reading takes and fills, among items.
use Rattle.gix_refspec_match.proofs.Common.{List, refl, ℕ, Option, inl, inr, subst, Ref, Reading, Ends, IsFilled, Hit}
use Rattle.gix_refspec_match.proofs.Common.{IsHit, AreSpecHits, AreHits, HasEnds, TakesIn, Candidates}
use Rattle.gix_refspec_match.proofs.lemmas.hits.HitLemmas.{one_pair, hit_once}
use Rattle.gix_refspec_match.proofs.lemmas.lists.SomeLemmas.{Any, Any-weaker, MakesOnly, any_made, any_joined}

-- with these ends, the reading takes some item and fills the other side, so that P holds of both names
abbrev pub Reaches : (Reading → Ends → Type 0) → (List ℕ → Ref → Option (List ℕ) → Type 0) → List Ref
    → (List ℕ → Option (List ℕ) → Type 0) → Reading → Type 0
Reaches HasEnds Taken items P r = (ends : Ends) × HasEnds r ends
    × Any (λ (i : Ref). (word : Option (List ℕ)) × (far : Option (List ℕ)) × Taken ends.near i word
    × IsFilled ends.far word far × P i.name far) items

module _ (which : Candidates) (g : List Reading) (items : List Ref) (hits : List Hit) (P : List ℕ → Option (List ℕ)
    → Type 0) (are : AreHits (HasEnds which) (TakesIn which items) g items hits) where
  abbrev AreMade : ℕ → Reading → List Hit → Type 0
  AreMade = AreSpecHits (HasEnds which) (TakesIn which items) items

  abbrev Holds : Hit → Type 0
  Holds h = P h.near h.far

  pub reach_hits : Any (Reaches (HasEnds which) (TakesIn which items) items P) g
      → Any (λ (h : Hit). P h.near h.far) hits
  reach_hits any = any_joined AreMade Holds 0 g hits are (Any-weaker _ _ of_reading g any)
    where
      of_item : (ends : Ends) (k : ℕ) (i : Ref) → (word : Option (List ℕ)) × (far : Option (List ℕ))
          × TakesIn which items ends.near i word × IsFilled ends.far word far × P i.name far
          → MakesOnly (IsHit (TakesIn which items) ends k) Holds i
      of_item ends k i (word, far, takes, filled, holds) j =
          let hit : IsHit (TakesIn which items) ends k j i _ =
          record { word = word; takes = takes; far = filled; near = refl; spec = refl; item = refl } in (
            record { spec = k; item = j; near = i.name; far = far },
            hit,
            λ z also. subst Holds (hit_once which items ends k j i _ z hit also) holds,
          )

      of_reading : (r : Reading) → Reaches (HasEnds which) (TakesIn which items) items P r → (k : ℕ) (made : List Hit)
          → AreMade k r made → Any Holds made
      of_reading r (ends, has, some) k made (inr (none, empty)) = absurd (none ends has)
      of_reading r (ends, has, some) k made (inl (others, have, is)) =
          any_made (IsHit (TakesIn which items) ends k) Holds 0 items made
          (rw (one_pair which r others ends have has) at is) (Any-weaker _ _ (of_item ends k) items some)
