-- Which local refs are stale or kept, by what a fetch writes and what the specs say of a name.
use Rattle.gix_refspec_plan.proofs.Common.{Contains-append_cases, subst, ◌≡◌, ◌⊎◌, inl, inr, ℕ, ◌+◌, ◌<◌, ◌++◌, ◌∷◌}
use Rattle.gix_refspec_plan.proofs.Common.{◌↔◌, Bool, List, [], Option, MatchOption, length, map, take, get_or, ap, ◌∙◌}
use Rattle.gix_refspec_plan.proofs.Common.{arith, AllByRecursion, Contains, get_or-map, length-map, take-map}
use Rattle.gix_refspec_plan.proofs.Common.{bstr_bytes, RefSpecRef, reading_of, Item, IsMadeFrom, ref_of, IsFlagged}
use Rattle.gix_refspec_plan.proofs.Common.{found_of, Reading, IsAccepted, Ref, HasName, Mapped, Found, IsKeptBy}
use Rattle.gix_refspec_plan.proofs.Common.{IsStale, IsWritable, AreMappedBy, FlagWritten, HasDestination, HasState}
use Rattle.gix_refspec_plan.proofs.Common.{ref_names, Excluded, Included, rules, get_or_default}
use Rattle.gix_refspec_plan.specs.declared.stale.Stale.{Stale}
use Rattle.gix_refspec_plan.proofs.lemmas.plan.MadeLemmas.{one_in, made_one, made_none}
use Rattle.gix_refspec_plan.proofs.lemmas.stale.FetchedLemmas.{fetched_written, object_written, present_written}
use Rattle.gix_refspec_plan.proofs.lemmas.stale.FetchedLemmas.{written_fetched, written_from}
use Rattle.gix_refspec.proofs.lemmas.keep.FilterLemmas.{item_named, mapped_there}

pub named_among : (refs : List Ref) (n : List ℕ) → HasName refs n → Contains (ref_names refs) n
named_among refs n has = let (item, there, same) = item_named refs n has in subst (Contains (ref_names refs)) same
    (mapped_there (λ (r : Ref). r.name) refs item there)

pub among_named : (refs : List Ref) (n : List ℕ) → Contains (ref_names refs) n → HasName refs n
among_named [] n there = absurd (omega (arith, there.1))
among_named (r ∷ refs) n there = search (
  rules,
  Contains-append_cases (r.name ∷ []) (ref_names refs) n there,
  one_in r.name n,
  among_named refs n,
)

module _ (g : List Reading) (remote : List Ref) (mapped : List Mapped)
    (accepted : AllByRecursion (λ r. ∥ IsAccepted r ∥₁) g) (by : AreMappedBy g remote mapped) (n : List ℕ) where
  pub written_untold : HasDestination mapped n → (kept : Option ℕ)
      → ¬ (MatchOption kept (IsStale g remote n) (IsKeptBy g remote n))
  written_untold has kept told = grind (
    arith,
    written_from g remote mapped accepted by n has,
    written_fetched g remote mapped accepted by n has,
  )

  pub unwritable_untold : ¬ (IsWritable g n) → (kept : Option ℕ)
      → ¬ (MatchOption kept (IsStale g remote n) (IsKeptBy g remote n))
  unwritable_untold none kept told = grind (arith, told)

  -- what isn't written is stale, if no ref is excluded from which it could be written, and otherwise kept
  pub included_stale : ¬ (HasDestination mapped n) → HasState g n Included → IsStale g remote n
  included_stale unwritten (writable, included) = search (
    rules,
    object_written g remote mapped accepted by n,
    present_written g remote mapped accepted by n,
  )

  pub excluded_kept : (k : ℕ) → ¬ (HasDestination mapped n) → HasState g n (Excluded k) → IsKeptBy g remote n k
  excluded_kept k unwritten (s, source, (r, at, excludes)) =
      search (rules, fetched_written g remote mapped accepted by n)

-- what is told of the local ref at index k
abbrev pub Tells : List Reading → List Ref → List Ref → ℕ → Ref → Found → Type 0
Tells g remote locals k local f = (f.item ≡ k) × ¬ (HasName (take k locals) local.name)
    × MatchOption f.kept_by (IsStale g remote local.name) (IsKeptBy g remote local.name)

pub all_accepted : (specs : List RefSpecRef) → AllByRecursion (λ r. ∥ IsAccepted r ∥₁) (map reading_of specs)
all_accepted [] = tt
all_accepted (s ∷ specs) = (s.accepted, all_accepted specs)

module _ (specs : List RefSpecRef) (remote : List Ref) (mapped : List Mapped)
    (by : AreMappedBy (map reading_of specs) remote mapped) (local : List Item) (flags : List Bool)
    (told : FlagWritten mapped (ref_names (map ref_of local)) flags)
    (i : ℕ) (d : Item) (below : i < length local) (old : List Stale)
    (so_far : IsMadeFrom (Tells (map reading_of specs) remote (map ref_of local)) 0 (map ref_of (take i local))
    (map found_of old)) where
  abbrev n : List ℕ
  n = bstr_bytes (get_or local i d).full_ref_name

  flagged : IsFlagged flags i ↔ (HasDestination mapped n ⊎ HasName (take i (map ref_of local)) n)
  flagged =
      let named = get_or-map (λ (r : Ref). r.name) (map ref_of local) i (ref_of d) []
      (rw (length-map local ref_of) below) ∙ ap (λ (r : Ref). r.name)
      (get_or-map ref_of local i d (ref_of d) below) in
      let at = told i [] (rw (length-map (map ref_of local) (λ (r : Ref). r.name), length-map local ref_of) below) in
      let here : IsFlagged flags i ↔ (HasDestination mapped n ⊎ Contains (ref_names (take i (map ref_of local))) n) =
      rw (named, take-map (λ (r : Ref). r.name) i (map ref_of local)) at at in
      search (rules, here, among_named (take i (map ref_of local)) n, named_among (take i (map ref_of local)) n)

  pub tell_next : (new : List Stale) (s : Stale) → s.item_index ≡ i → ¬ (IsFlagged flags i)
      → (¬ (HasDestination mapped n) → MatchOption s.kept_by (IsStale (map reading_of specs) remote n)
      (IsKeptBy (map reading_of specs) remote n))
      → new ≡ old ++ s ∷ [] → IsMadeFrom (Tells (map reading_of specs) remote (map ref_of local)) 0
      (map ref_of (take (i + 1) local)) (map found_of new)
  tell_next new s at unflagged state more = made_one (Tells (map reading_of specs) remote (map ref_of local)) ref_of
      found_of local i (get_or local i d) old below (get_or_default local i d _ below) so_far new s
      (at, (λ before. unflagged (flagged.1 (inr before))), state (λ has. unflagged (flagged.1 (inl has)))) more

  pub tell_none : IsFlagged flags i ⊎ ¬ (IsWritable (map reading_of specs) n)
      → IsMadeFrom (Tells (map reading_of specs) remote (map ref_of local)) 0 (map ref_of (take (i + 1) local))
      (map found_of old)
  tell_none either = made_none (Tells (map reading_of specs) remote (map ref_of local)) ref_of found_of local i
      (get_or local i d) old below (get_or_default local i d _ below) so_far (λ f (at, new, state).
      let untold = written_untold (map reading_of specs) remote mapped (all_accepted specs) by n in
      search (rules, flagged, untold, unwritable_untold (map reading_of specs) remote mapped (all_accepted specs) by n))
