-- What is kept of a list of mappings.
use Rattle.gix_refspec_match.proofs.Common.{List, [], ◌∷◌, None, Some, refl, ◌≡◌, ℕ, ◌++◌, Option, ◌∙◌, arith, inl, ap}
use Rattle.gix_refspec_match.proofs.Common.{◌<◌, length, map, take, ◌+◌, get_or, append_assoc, option_map, ◌↔◌}
use Rattle.gix_refspec_match.proofs.Common.{option_to_list, Bool, zero-add, length-append, Ordering, take-append_seam}
use Rattle.gix_refspec_match.proofs.Common.{length-map, length-take-le, get_or_default, map-id, get_or-map, get_or-take}
use Rattle.gix_refspec_match.proofs.Common.{All-from_recursion, AllByRecursion, all_weaker, Reading, MakesOf}
use Rattle.gix_refspec_match.proofs.Common.{IsMadeFrom, Mapped, IsKept, Source, IsSourceExcluded, IsSamePair, HasPair}
use Rattle.gix_refspec_match.proofs.Common.{FlagsDuplicates, IsDuplicate, AreExclusionsOf, ExcludeStart, IsUnflagged}
use Rattle.gix_refspec_match.proofs.Common.{equal_pair, pair_order, same_pair, mapped_of, Exclusions, Mapping, inr}
use Rattle.gix_refspec_match.proofs.Common.{subst, append-nil, drop, ◌⊎◌, Thins}
use Rattle.gix_refspec_match.proofs.lemmas.lists.SomeLemmas.{Any-weaker, Any-left, Any-right, some_at, some_of}
use Rattle.gix_refspec_match.proofs.lemmas.lists.ListsLemmas.{made_map, cut}
use Rattle.gix_refspec_match.proofs.lemmas.hits.HitLemmas.{made_each}
use Rattle.gix_refspec_match.proofs.lemmas.keep.KeptPairLemmas.{Any-HasPair, HasPair-Any, Keeps}
use Rattle.gix_refspec_match.specs.Matching.Mappings.{AreApart}

pub HasPair-from_place : (l : List Mapped) (j : ℕ) (d m : Mapped) → j < length l → IsSamePair (get_or l j d) m
    → HasPair l m
HasPair-from_place l j d m below same =
    HasPair-Any l m (some_of _ l (j, get_or l j d, below, get_or_default l j _ _ below, same))

pub HasPair-left : (xs ys : List Mapped) (m : Mapped) → HasPair xs m → HasPair (xs ++ ys) m
HasPair-left xs ys m has = HasPair-Any _ m (Any-left _ xs ys (Any-HasPair xs m has))

pub HasPair-last : (xs : List Mapped) (x m : Mapped) → IsSamePair x m → HasPair (xs ++ x ∷ []) m
HasPair-last xs x m same = HasPair-Any _ m (Any-right _ xs (x ∷ []) (inl same))

abbrev pub by_pair : Mapping → Mapping → Ordering
by_pair m n = pair_order (mapped_of m) (mapped_of n)

pub duplicate_at : (ms : List Mapping) (k : ℕ) (d : Mapping) → k < length ms → IsDuplicate by_pair ms k
    ↔ HasPair (take k (map mapped_of ms)) (mapped_of (get_or ms k d))
duplicate_at ms k d below = (
  (λ (_, (j, before, equal)). HasPair-from_place _ j (mapped_of d) _ (omega (arith, size, before))
      (rw (at j d _ before) (same_pair _ _ (equal d)))),
  (λ has.
      let (j, x, inside, read, same) = some_at _ _ (Any-HasPair _ _ has) in
      let before : j < k = omega (arith, size, inside) in (
        below,
        (
          j,
          before,
          λ e. equal_pair _ _ (simp (← read, at j e x before, get_or_default ms k d e below) at same),
        ),
      )),
)
  where
    size : length (take k (map mapped_of ms)) ≡ k
    size = length-take-le k (map mapped_of ms) (omega (arith, length-map ms mapped_of))

    at : (j : ℕ) (e : Mapping) (x : Mapped) → j < k → get_or (take k (map mapped_of ms)) j x ≡ mapped_of (get_or ms j e)
    at j e x before = get_or-take k (map mapped_of ms) j x before ∙ get_or-map mapped_of ms j e x
        (omega (arith, before))

pub starts_agree : (g : List Reading) (es : Exclusions) (s : Source) → AreExclusionsOf g es → ExcludeStart es s
    ↔ IsSourceExcluded g s
starts_agree g es s are = grind (arith, are)

none_excluded : (s : Source) → ¬ (IsSourceExcluded [] s)
none_excluded s taken = grind (arith, taken)

pub kept_unflagged : (ms rest : List Mapping) (flags : List Bool) → FlagsDuplicates by_pair ms flags
    → IsMadeFrom (IsUnflagged flags) 0 ms rest → IsKept [] (map mapped_of ms) (map mapped_of rest)
kept_unflagged ms rest flags flagged made =
    made_map mapped_of mapped_of (IsUnflagged flags) (Keeps [] (map mapped_of ms)) 0 ms rest
    (λ i d below x makes. rw (zero-add i) (one i d (duplicate_at ms i d below) x (rw (zero-add i) at makes))) made
  where
    one : (i : ℕ) (d : Mapping) → IsDuplicate by_pair ms i ↔ HasPair (take i (map mapped_of ms))
        (mapped_of (get_or ms i d)) → (x : Option Mapping)
        → MakesOf (IsUnflagged flags) i (get_or ms i d) x → MakesOf (Keeps [] (map mapped_of ms)) i
        (mapped_of (get_or ms i d)) (option_map mapped_of x)
    one i d by None none = λ y stays. none _ (refl, λ now. stays.1.first (by.0 ((flagged i).0 now)))
    one i d by (Some y) (same, free) =
        (ap mapped_of same, record { first = λ has. free ((flagged i).1 (by.1 has)); included = none_excluded _ })

abbrev pub AreIncluded : List Reading → List Mapped → Type 0
AreIncluded g l = AllByRecursion (λ m. ¬ (IsSourceExcluded g m.source)) l

pub kept_included : (g : List Reading) (l kept : List Mapped) → AreIncluded g l → IsKept [] l kept → IsKept g l kept
kept_included g l kept free are = rw map-id at (made_each (λ m. m) (Keeps [] l) (Keeps g l) l kept (λ i d below. (
  (λ m keeps. (keeps.0, record { first = keeps.1.first; included = All-from_recursion _ l free i d below })),
  λ m keeps. (m, (keeps.0, record { first = keeps.1.first; included = none_excluded (get_or l i d).source })),
)) are)

-- what is kept has no pair from before it, and no pair twice
apart_from : (g : List Reading) (l before xs ys : List Mapped) (k : ℕ) → before ++ xs ≡ l → length before ≡ k
    → IsMadeFrom (Keeps g l) k xs ys → AllByRecursion (λ y. ¬ (HasPair before y)) ys × AreApart ys
apart_from g l before [] ys k whole place none = rw none (tt, tt)
apart_from g l before (x ∷ xs) ys k whole place (made, rest, makes, more, is) =
    rw is (both made makes (apart_from g l (before ++ x ∷ []) xs rest (k + 1) (append_assoc before (x ∷ []) xs ∙ whole)
    (omega (arith, length-append before (x ∷ []), place)) more))
  where
    both : (o : Option Mapped) → MakesOf (Keeps g l) k x o → AllByRecursion (λ y. ¬ (HasPair (before ++ x ∷ []) y)) rest
        × AreApart rest
        → AllByRecursion (λ y. ¬ (HasPair before y)) (option_to_list o ++ rest) × AreApart (option_to_list o ++ rest)
    both None none (new, apart) = (
      all_weaker _ _ (λ y none has. none (HasPair-left before (x ∷ []) y has)) rest new,
      apart,
    )
    both (Some y) keeps (new, apart) = (
      (
        λ has. keeps.1.first (rw (← whole, ← place, take-append_seam before (x ∷ xs), ← keeps.0) has),
        all_weaker _ _ (λ z none has. none (HasPair-left before (x ∷ []) z has)) rest new,
      ),
      (all_weaker _ _ (λ z none same. none (HasPair-last before x z (rw keeps.0 at same))) rest new, apart),
    )

pub kept_once : (g : List Reading) (l kept : List Mapped) → IsKept g l kept → AreApart kept
kept_once g l kept is = (apart_from g l [] l kept 0 refl refl is).1

pub pair_right : (before l : List Mapped) (m : Mapped) → HasPair l m → HasPair (before ++ l) m
pair_right before l m has = HasPair-Any _ m (Any-right _ before l (Any-HasPair l m has))

pub pair_alike : (l : List Mapped) (m n : Mapped) → IsSamePair m n → HasPair l m → HasPair l n
pair_alike l m n same has =
    HasPair-Any l n
    (Any-weaker _ _
    (λ x is. record { source = is.source ∙ same.source; destination = is.destination ∙ same.destination }) l
    (Any-HasPair l m has))

pair_last : (l : List Mapped) (x m : Mapped) → HasPair (l ++ x ∷ []) m ↔ (HasPair l m ⊎ IsSamePair x m)
pair_last [] x m = grind arith
pair_last (y ∷ l) x m = grind (arith, pair_last l x m)

module _ (g : List Reading) where
  pub thins_all : (before l : List Mapped) → Thins g before l l
  thins_all before [] = refl
  thins_all before (m ∷ l) = inl (l, refl, thins_all (before ++ m ∷ []) l)

  pub thins_both : (before l some m rest : List Mapped) → Thins g before l some → Thins g (before ++ l) m rest
      → Thins g before (l ++ m) (some ++ rest)
  thins_both before [] some m rest none more = rw none (rw append-nil at more)
  thins_both before (x ∷ l) some m rest (inl (others, is, thins)) more =
      inl (
        others ++ rest,
        ap (λ s. s ++ rest) is,
        thins_both (before ++ x ∷ []) l others m rest thins
            (rw append_assoc more),
      )
  thins_both before (x ∷ l) some m rest (inr (may, thins)) more =
      inr (may, thins_both (before ++ x ∷ []) l some m rest thins (rw append_assoc more))

  pub thins_behind : (front before l some : List Mapped) → Thins g before l some → Thins g (front ++ before) l some
  thins_behind front before [] some none = none
  thins_behind front before (m ∷ l) some (inl (rest, is, thins)) =
      inl (rest, is, rw append_assoc (thins_behind front (before ++ m ∷ []) l rest thins))
  thins_behind front before (m ∷ l) some (inr (may, thins)) =
      inr (
        (elim may [ inl has ↦ inl (pair_right front before m has) | inr excluded ↦ inr excluded ]),
        rw append_assoc (thins_behind front (before ++ m ∷ []) l some thins),
      )

  -- of what isn't excluded both have the same pairs
  abbrev SamePairs : List Mapped → List Mapped → Type 0
  SamePairs before some = (m : Mapped) → ¬ (IsSourceExcluded g m.source) → HasPair before m ↔ HasPair some m

  makes_alike : (L T : List Mapped) (i j : ℕ) (m : Mapped) (made : Option Mapped) → SamePairs (take i L) (take j T)
      → MakesOf (Keeps g T) j m made → MakesOf (Keeps g L) i m made
  makes_alike L T i j m None same none =
      λ y keeps. none y
      (keeps.0, record { first = λ has. keeps.1.first ((same m keeps.1.included).1 has); included = keeps.1.included })
  makes_alike L T i j m (Some y) same keeps =
      (keeps.0, record { first = λ has. keeps.1.first ((same m keeps.1.included).0 has); included = keeps.1.included })

  kept_from : (L T : List Mapped) (i j : ℕ) (l t ys : List Mapped) → drop i L ≡ l → drop j T ≡ t
      → SamePairs (take i L) (take j T) → Thins g (take i L) l t → IsMadeFrom (Keeps g T) j t ys
      → IsMadeFrom (Keeps g L) i l ys
  kept_from L T i j [] t kept at_l at_t same none are = subst (λ x. IsMadeFrom (Keeps g T) j x kept) none are
  kept_from L T i j (m ∷ l) t kept at_l at_t same (inl (rest, is, thins)) are =
      let (made, others, of, more, all) = subst (λ x. IsMadeFrom (Keeps g T) j x kept) is are in
      let (_, front_l, rest_l) = cut L l i m m at_l in
      let (_, front_t, rest_t) = cut T rest j m m (at_t ∙ is) in
      let next : SamePairs (take (i + 1) L) (take (j + 1) T) =
      rw (front_l, front_t)
      (λ n free. grind (arith, same n free, pair_last (take i L) m n, pair_last (take j T) m n)) in (
        made,
        others,
        makes_alike L T i j m made same of,
        kept_from L T (i + 1) (j + 1) l rest others rest_l rest_t next
            (rw front_l thins) more,
        all,
      )
  kept_from L T i j (m ∷ l) t kept at_l at_t same (inr (may, thins)) are =
      let (_, front_l, rest_l) = cut L l i m m at_l in
      let goes : (y : Mapped) → ¬ (Keeps g L i m y) = λ y keeps. elim may [
        | inl has ↦ keeps.1.first has
        | inr excluded ↦
            excluded keeps.1.included
      ] in (
        None,
        kept,
        goes,
        kept_from L T (i + 1) j l t kept rest_l at_t
            (rw front_l (λ n free. grind (arith, may, same n free, pair_last, pair_alike))) (rw front_l thins) are,
        refl,
      )

  -- what stays of some of them stays of all
  pub kept_thinned : (l some kept : List Mapped) → Thins g [] l some → IsKept g some kept → IsKept g l kept
  kept_thinned l some kept thins is = kept_from l some 0 0 l some kept refl refl
      (λ m free. ((λ has. has), (λ has. has))) thins is
