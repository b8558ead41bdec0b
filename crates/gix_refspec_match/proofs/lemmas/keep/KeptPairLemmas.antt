-- What is kept of a list of mappings, by pairs: those whose source isn't excluded.
use Rattle.gix_refspec_match.proofs.Common.{List, [], ◌∷◌, None, Some, refl, ◌≡◌, ℕ, ◌++◌, Option, sym, ◌∙◌, arith, inl}
use Rattle.gix_refspec_match.proofs.Common.{inr, subst, length, ◌+◌, append_assoc, ◌⊎◌, ◌↔◌, option_to_list}
use Rattle.gix_refspec_match.proofs.Common.{length-append, take-append_seam, Reading, MakesOf, IsMadeFrom, Mapped}
use Rattle.gix_refspec_match.proofs.Common.{IsKeptAt, IsKept, IsSourceExcluded, IsSamePair, HasPair, equal_pair}
use Rattle.gix_refspec_match.proofs.Common.{pair_order, same_pair, cases_Bool, is_eq}
use Rattle.gix_refspec_match.proofs.lemmas.lists.SomeLemmas.{Any, Any-right, Any-cases, Any-weaker, Any-both, made_any}

abbrev pub IsOfPair : Mapped → Mapped → Type 0
IsOfPair pair m = IsSamePair m pair

pub Any-HasPair : (l : List Mapped) (pair : Mapped) → HasPair l pair → Any (IsOfPair pair) l
Any-HasPair [] pair has = has
Any-HasPair (x ∷ l) pair has = grind (arith, Any-HasPair l pair)

pub HasPair-Any : (l : List Mapped) (pair : Mapped) → Any (IsOfPair pair) l → HasPair l pair
HasPair-Any [] pair any = any
HasPair-Any (x ∷ l) pair any = grind (arith, HasPair-Any l pair)

decided_pair : (pair m : Mapped) → IsOfPair pair m ⊎ ¬ (IsOfPair pair m)
decided_pair pair m = let cases = cases_Bool (is_eq (pair_order m pair)) in grind (
  arith,
  cases,
  same_pair m pair,
  equal_pair m pair,
)

abbrev pub Keeps : List Reading → List Mapped → ℕ → Mapped → Mapped → Type 0
Keeps g l k m made = (made ≡ m) × IsKeptAt g l k m

-- what has a pair, and nothing before it has
kept_from : (g : List Reading) (l before xs ys : List Mapped) (k : ℕ) (pair : Mapped) → before ++ xs ≡ l
    → length before ≡ k → ¬ (Any (IsOfPair pair) before) → ¬ (IsSourceExcluded g pair.source)
    → IsMadeFrom (Keeps g l) k xs ys → Any (IsOfPair pair) xs → Any (IsOfPair pair) ys
kept_from g l before [] ys k pair whole place new included made any = absurd any
kept_from g l before (m ∷ xs) ys k pair whole place new included (made, rest, makes, more, is) any =
    rw is (elim (decided_pair pair m) [
      | inl same ↦ here same made makes
      | inr other ↦
          let next : length (before ++ m ∷ []) ≡ k + 1 = omega (arith, length-append before (m ∷ []), place) in
          Any-right (IsOfPair pair) (option_to_list made) rest
          (kept_from g l (before ++ m ∷ []) xs rest (k + 1) pair (append_assoc before (m ∷ []) xs ∙ whole) next
          (λ found. let cases = Any-cases (IsOfPair pair) before (m ∷ []) found in grind (arith, new, cases, other))
          included more (grind (arith, any, other)))
    ])
  where
    -- the first mapping with the pair is kept
    stays : IsOfPair pair m → IsKeptAt g l k m
    stays same = record {
      first = λ has. new
          (Any-weaker (IsOfPair m) (IsOfPair pair)
          (λ x is. record { source = is.source ∙ same.source; destination = is.destination ∙ same.destination })
          before (Any-HasPair before m (rw (← whole, ← place, take-append_seam before (m ∷ xs)) at has)));
      included = λ by. included (rw same.source at by);
    }

    here : IsOfPair pair m → (o : Option Mapped) → MakesOf (Keeps g l) k m o
        → Any (IsOfPair pair) (option_to_list o ++ rest)
    here same None none = absurd (none m (refl, stays same))
    here same (Some y) keeps = inl (subst (IsOfPair pair) (sym keeps.0) same)

pub kept_pairs : (g : List Reading) (l kept : List Mapped) (pair : Mapped) → IsKept g l kept → HasPair kept pair
    ↔ (HasPair l pair × ¬ (IsSourceExcluded g pair.source))
kept_pairs g l kept pair is = (
  (λ has.
      let both = Any-both (IsOfPair pair) (¬ (IsSourceExcluded g pair.source)) l
      (Any-weaker _ _ (λ m (j, y, keeps, same).
      let of_m : IsOfPair pair m = rw keeps.0 at same in
      (of_m, λ by. keeps.1.included (rw of_m.source by))) l
      (made_any (Keeps g l) (IsOfPair pair) 0 l kept is (Any-HasPair kept pair has))) in
      (HasPair-Any l pair both.0, both.1)),
  (λ both. HasPair-Any kept pair (kept_from g l [] l kept 0 pair refl refl (λ none. none) both.1 is
      (Any-HasPair l pair both.0))),
)
