-- Without an example of a directory conflict kept mappings that are nested are of one spec, whatever refs there are.
use Rattle.gix_refspec_lint.proofs.Common.{◌≡◌, ◌⊎◌, inl, inr, ℕ, ◌<◌, List, [], Some, refl, sym, ◌∙◌, subst, arith}
use Rattle.gix_refspec_lint.proofs.Common.{cases_lt, slice_get, slice_get_within, map-id, map_split, Ref, Reading}
use Rattle.gix_refspec_lint.proofs.Common.{Source, AreStorable, Fetches, IsDirectoryOf, IsJoinedFrom, IsMadeFrom}
use Rattle.gix_refspec_lint.proofs.Common.{nothing_joined}
use Rattle.gix_refspec_lint.proofs.lemmas.{FreeLemmas.fetched_by, NestLemmas.nesting_of_two}
use Rattle.gix_refspec_match.proofs.lemmas.lists.JoinLemmas.{made_none, map_long}
use Rattle.gix_refspec_lint.specs.Laws.Lint.{NestedByOne, NestingsShown}
use Rattle.gix_refspec_lint.specs.Matching.Lint.{AreNestings, IsNesting, Nesting, NestingOver}

pub nestings_shown : (g : List Reading) → NestingsShown g
nestings_shown g i j (refs, s, t, d, e, c) = (
  record { upper = i; lower = j; one = s; other = t; directory = d; nested = e },
  record { upper = refl; lower = refl; over = nesting_of_two g refs i j s t d e c },
)

none_shown : (g : List Reading) (i j : ℕ) (r q : Reading) (n : Nesting) → AreNestings g [] → slice_get g i ≡ Some r
    → slice_get g j ≡ Some q → ¬ (IsNesting g i j n)
none_shown g i j r q n none at also is =
    let below = slice_get_within g i r at in
    let Shown : ℕ → Reading → List Nesting → Type 0 = λ k p row. IsMadeFrom (λ l p x. IsNesting g k l x) 0 g row in
    let row = nothing_joined Shown 0 _ _ _
    (subst (λ h. IsJoinedFrom Shown 0 h []) (sym (map-id g) ∙ map_split (λ (x : Reading). x) g i r below) none) in
    made_none (λ l p x. IsNesting g i l x) 0 g
    (subst (λ k. Shown k r []) (omega (arith, map_long (λ (x : Reading). x) g i below)) row) j q
    (slice_get_within g j q also) n (subst (λ l. IsNesting g i l n) (omega arith) is)

module _ (g : List Reading) (none : AreNestings g []) (refs : List Ref) (storable : AreStorable refs) (i j : ℕ)
    (s t : Source) (d e : List ℕ) (one : Fetches g refs i s (Some d)) (other : Fetches g refs j t (Some e)) where
  -- neither order of two specs
  apart : i < j → IsDirectoryOf d e ⊎ IsDirectoryOf e d → ⊥
  apart before (inl nested) =
      let c : NestingOver g refs i j s t d e = record {
        storable = storable;
        upper = one;
        lower = other;
        nested =
            nested;
      } in
      let (n, shown) = nestings_shown g i j (refs, s, t, d, e, c) in
      none_shown g i j one.maps.maps.reading other.maps.maps.reading n none one.maps.maps.at other.maps.maps.at
      (record { before = before; either = inl shown })
  apart before (inr nested) =
      let c : NestingOver g refs j i t s e d = record {
        storable = storable;
        upper = other;
        lower = one;
        nested =
            nested;
      } in
      let (n, shown) = nestings_shown g j i (refs, t, s, e, d, c) in
      none_shown g i j one.maps.maps.reading other.maps.maps.reading n none one.maps.maps.at other.maps.maps.at
      (record { before = before; either = inr shown })

turned : (d e : List ℕ) → IsDirectoryOf d e ⊎ IsDirectoryOf e d → IsDirectoryOf e d ⊎ IsDirectoryOf d e
turned d e (inl nested) = inr nested
turned d e (inr nested) = inl nested

pub nested_by_one : (g : List Reading) → NestedByOne g
nested_by_one g none h refs kept all storable are m n has also sound sane (d, e, to, goes, nested) =
    let (i, one) = fetched_by g h refs kept m d all are has sound to in
    let (j, other) = fetched_by g h refs kept n e all are also sane goes in
    let before = λ (less : i < j). apart g none refs storable i j m.source n.source d e one other less nested in
    let behind = λ (less : j < i). apart g none refs storable j i n.source m.source e d other one less
    (turned d e nested) in
    let same : i ≡ j = elim (cases_lt i j) [
      | inl less ↦ absurd (before less)
      | inr from ↦
          elim (cases_lt j i) [ inl less ↦ absurd (behind less) | inr upto ↦ omega (arith, from, upto) ]
    ] in (
      i,
      subst (λ o. Fetches g refs i m.source o) (sym to) one,
      subst (λ o. Fetches g refs i n.source o) (sym goes)
          (subst (λ k. Fetches g refs k n.source (Some e)) (sym same) other),
    )
