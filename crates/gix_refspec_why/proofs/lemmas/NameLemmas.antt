-- The first ref of each name, and the first attempt to each destination, as they are found one by one.
use Rattle.gix_refspec_why.proofs.Common.{◌≡◌, ◌<◌, ◌+◌, ◌++◌, ◌∷◌, ◌∙◌, [], ℕ, List, Option, None, Some, Bool, Bor}
use Rattle.gix_refspec_why.proofs.Common.{IsSome, true, false, cond, is_some, refl, sym, ap, subst, length, map, take}
use Rattle.gix_refspec_why.proofs.Common.{get_or, length-map, length-take-le, map_more, arith, BTreeMap, UpdatesBy}
use Rattle.gix_refspec_why.proofs.Common.{get_by, slice_cmp, nat_cmp, bytes_eq, bytes_eq-Decides, btree_map_updates_str}
use Rattle.gix_refspec_why.proofs.Common.{false≢true, same_Some, bstr_bytes, Item, Ref, ref_of, FirstOf}
use Rattle.gix_refspec_why.proofs.Common.{AreMakersOf, AttemptsTo, NamesFirst, maker_of, FindsEarlierIn}
use Rattle.gix_refspec_why.proofs.Common.{take_more}
use Rattle.gix_refspec_why.proofs.lemmas.FirstLemmas.{each_more, first_kept, first_new, first_same}
use Rattle.gix_refspec_why.specs.declared.attempts.Attempt.{Attempt}
use Rattle.gix_refspec_why.specs.declared.attempts.Attempt.TheVariants as attempt
use Rattle.gix_refspec_why.specs.declared.attempts.Makers.{Makers}

-- one more element, which changes nothing where one before it is as P says
pub more_same : {X : Type 0} (P : X → Type 0) (l : List X) (x : X) (found : Option ℕ) → (P x → IsSome found)
    → FirstOf P l found → FirstOf P (l ++ x ∷ []) found
more_same P l x None some first = first_same P l x None (λ holds. false≢true (some holds)) first
more_same P l x (Some k) some first = first_kept P l x k first

abbrev index_at : BTreeMap (Bor (List ℕ)) ℕ → List ℕ → Option ℕ
index_at firsts n = get_by (λ k. slice_cmp nat_cmp n k.now) firsts

module _ (items : List Item) (i : ℕ) (d : Item) (below : i < length items) where
  next : map ref_of (take (i + 1) items) ≡ map ref_of (take i items) ++ ref_of (get_or items i d) ∷ []
  next = map_more ref_of items i d below

  -- an item of a name that is known
  pub named_same : (firsts : BTreeMap (Bor (List ℕ)) ℕ) (name : List ℕ)
      → name ≡ bstr_bytes (get_or items i d).full_ref_name → IsSome (index_at firsts name)
      → NamesFirst (map ref_of (take i items)) firsts → NamesFirst (map ref_of (take (i + 1) items)) firsts
  named_same firsts name is known so_far n = subst (λ l. FirstOf (λ r. r.name ≡ n) l (index_at firsts n)) (sym next)
      (more_same (λ (r : Ref). r.name ≡ n) (map ref_of (take i items)) (ref_of (get_or items i d)) (index_at firsts n)
      (λ named. subst (λ n. IsSome (index_at firsts n)) (is ∙ named) known) (so_far n))

  -- the first item of a name
  pub named_first : (old new : BTreeMap (Bor (List ℕ)) ℕ) (e : Bor (List ℕ))
      → e.now ≡ bstr_bytes (get_or items i d).full_ref_name → index_at old e.now ≡ None
      → NamesFirst (map ref_of (take i items)) old
      → UpdatesBy (λ x y. slice_cmp nat_cmp x.now y.now) (λ k. slice_cmp nat_cmp e.now k.now) old new (Some i)
      → NamesFirst (map ref_of (take (i + 1) items)) new
  named_first old new e is unknown so_far updates n =
      subst (λ l. FirstOf (λ r. r.name ≡ n) l (index_at new n)) (sym next)
      (rw (btree_map_updates_str e.now old new (Some i) updates n) (by (bytes_eq e.now n) refl))
    where
      long : length (map ref_of (take i items)) ≡ i
      long = length-map (take i items) ref_of ∙ length-take-le i items (omega (arith, below))

      by : (b : Bool) → bytes_eq e.now n ≡ b
          → FirstOf (λ (r : Ref). r.name ≡ n) (map ref_of (take i items) ++ ref_of (get_or items i d) ∷ [])
          (cond b (Some i) (index_at old n))
      by true equal =
          let here = (bytes_eq-Decides e.now n).0 equal in
          subst (λ k. FirstOf (λ (r : Ref). r.name ≡ n) (map ref_of (take i items) ++ ref_of (get_or items i d) ∷ [])
          (Some k)) long
          (first_new (λ (r : Ref). r.name ≡ n) (map ref_of (take i items)) (ref_of (get_or items i d)) (sym is ∙ here)
          (subst (FirstOf (λ (r : Ref). r.name ≡ n) (map ref_of (take i items)))
          (ap (index_at old) (sym here) ∙ unknown) (so_far n)))
      by false other = first_same (λ (r : Ref). r.name ≡ n) (map ref_of (take i items)) (ref_of (get_or items i d))
          (index_at old n) (λ named. false≢true (sym other ∙ (bytes_eq-Decides e.now n).1 (is ∙ named))) (so_far n)

-- ---- attempts

-- an attempt has one destination
pub attempts_once : (a : Attempt) (d e : Option (List ℕ)) → AttemptsTo d a → AttemptsTo e a → d ≡ e
attempts_once (attempt.Stops f) d e to also = absurd to
attempts_once (attempt.Maps m) d e to also = sym to ∙ also

module _ (l : List Attempt) (a : Attempt) where
  -- an attempt to a destination that is known
  pub makers_same : (makers : Makers) → AreMakersOf l makers
      → ((d : Option (List ℕ)) → AttemptsTo d a → IsSome (maker_of makers d)) → AreMakersOf (l ++ a ∷ []) makers
  makers_same makers are known d = more_same (AttemptsTo d) l a (maker_of makers d) (known d) (are d)

  -- the first attempt to a destination
  pub makers_named : (old new : Makers) (e : Bor (List ℕ)) → AreMakersOf l old → AttemptsTo (Some e.now) a
      → maker_of old (Some e.now) ≡ None → new.without ≡ old.without
      → UpdatesBy (λ x y. slice_cmp nat_cmp x.now y.now) (λ k. slice_cmp nat_cmp e.now k.now) old.by_destination
      new.by_destination (Some (length l))
      → AreMakersOf (l ++ a ∷ []) new
  makers_named old new e are to unknown same updates None =
      subst (FirstOf (AttemptsTo None) (l ++ a ∷ [])) (sym same)
      (first_same (AttemptsTo None) l a old.without (λ none. cc (attempts_once a (Some e.now) None to none)) (are None))
  makers_named old new e are to unknown same updates (Some d) =
      rw (btree_map_updates_str e.now old.by_destination new.by_destination (Some (length l)) updates d)
      (by (bytes_eq e.now d) refl)
    where
      by : (b : Bool) → bytes_eq e.now d ≡ b
          → FirstOf (AttemptsTo (Some d)) (l ++ a ∷ []) (cond b (Some (length l)) (index_at old.by_destination d))
      by true equal =
          let here = (bytes_eq-Decides e.now d).0 equal in
          first_new (AttemptsTo (Some d)) l a (subst (λ d. AttemptsTo (Some d) a) here to)
          (subst (FirstOf (AttemptsTo (Some d)) l) (ap (index_at old.by_destination) (sym here) ∙ unknown)
          (are (Some d)))
      by false other = first_same (AttemptsTo (Some d)) l a (index_at old.by_destination d)
          (λ also. false≢true (sym other ∙ (bytes_eq-Decides e.now d).1
          (same_Some e.now d (attempts_once a (Some e.now) (Some d) to also))))
          (are (Some d))

  -- the first attempt without a destination
  pub makers_without : (old new : Makers) → AreMakersOf l old → AttemptsTo None a → old.without ≡ None
      → new.by_destination ≡ old.by_destination → new.without ≡ Some (length l) → AreMakersOf (l ++ a ∷ []) new
  makers_without old new are to unknown same now None =
      subst (FirstOf (AttemptsTo None) (l ++ a ∷ [])) (sym now)
      (first_new (AttemptsTo None) l a to (subst (FirstOf (AttemptsTo None) l) unknown (are None)))
  makers_without old new are to unknown same now (Some d) =
      subst (λ m. FirstOf (AttemptsTo (Some d)) (l ++ a ∷ []) (index_at m d)) (sym same)
      (first_same (AttemptsTo (Some d)) l a (index_at old.by_destination d)
      (λ also. cc (attempts_once a None (Some d) to also)) (are (Some d)))

-- what isn't there
pub unknown_at : {X : Type 0} (found : Option X) → is_some found ≡ false → found ≡ None
unknown_at None is = refl
unknown_at (Some x) is = absurd (false≢true (sym is))

-- the first attempt before one more attempt, to the same destination
pub earlier_more : (xs : List Attempt) (i : ℕ) (a : Attempt) (found : Option ℕ) (old : List (Option ℕ)) → i < length xs
    → a ≡ get_or xs i a → FindsEarlierIn xs (take i xs) old
    → ((d : Option (List ℕ)) → AttemptsTo d a → FirstOf (AttemptsTo d) (take i xs) found)
    → FindsEarlierIn xs (take (i + 1) xs) (old ++ found ∷ [])
earlier_more xs i a found old below is so_far here =
    subst (λ l. FindsEarlierIn xs l (old ++ found ∷ []))
    (sym (take_more xs i a below ∙ ap (λ x. take i xs ++ x ∷ []) (sym is)))
    (each_more _ (take i xs) old a found so_far
    (subst (λ k. (d : Option (List ℕ)) → AttemptsTo d a → FirstOf (AttemptsTo d) (take k xs) found)
    (sym (length-take-le i xs (omega (arith, below)))) here))

-- the first attempts, of one more
pub makers_next : (xs : List Attempt) (i : ℕ) (a : Attempt) (makers : Makers) → i < length xs → a ≡ get_or xs i a
    → AreMakersOf (take i xs ++ a ∷ []) makers → AreMakersOf (take (i + 1) xs) makers
makers_next xs i a makers below is are = subst (λ l. AreMakersOf l makers)
    (sym (take_more xs i a below ∙ ap (λ x. take i xs ++ x ∷ []) (sym is))) are
