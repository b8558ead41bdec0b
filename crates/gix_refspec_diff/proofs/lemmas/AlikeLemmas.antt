-- Two lists fetch alike exactly if no value of either has an example.
use Rattle.gix_refspec_diff.proofs.Common.{AreValid, Fetches, HasName, IsRefName, List, Maps, Option, Reading, Ref}
use Rattle.gix_refspec_diff.proofs.Common.{Some, Source, [], arith, id, inl, inr, length, map, name, ref_named, refl}
use Rattle.gix_refspec_diff.proofs.Common.{refs_of, slice_get, slice_get_within, subst, sym, zero, ℕ, ◌++◌, ◌+◌, ◌<◌}
use Rattle.gix_refspec_diff.proofs.Common.{◌∷◌, ◌≡◌}
use Rattle.gix_refspec_lint.proofs.Common.{IsMadeFrom, None, mapped_there, suc, upto}
use Rattle.gix_refspec.proofs.lemmas.keep.FilterLemmas.{name_there}
use Rattle.gix_refspec_lint.proofs.lemmas.IdleLemmas.{each_named}
use Rattle.gix_refspec_lint.proofs.lemmas.IndexLemmas.{AreAmong, IsThere, all_listed, made_there, makes_fewer, maps_as}
use Rattle.gix_refspec_lint.proofs.lemmas.IndexLemmas.{named_in, own_among}
use Rattle.gix_refspec_diff.proofs.lemmas.SoughtLemmas.{valid_beside}
use Rattle.gix_refspec_diff.specs.Matching.Difference.{AreFetchedAlone, FetchAlike, FetchPair, FetchesAlone}
use Rattle.gix_refspec_diff.specs.Matching.Difference.{FetchesBeyond, FetchesFirst, IsFetchedAlone, PairExample}
use Rattle.gix_refspec_diff.specs.Matching.Difference.{refs_in}

-- ---- refs with the same names, in any order

module _ (g : List Reading) (A B : List Ref) (s : Source) (d : Option (List ℕ)) (there : IsThere B s)
    (back : AreAmong B A) where
  maps_among : (k : ℕ) → Maps g A k s d → Maps g B k s d
  maps_among k m = maps_as m (makes_fewer A B s d m.completed back there m.makes)

  fetches_among : (k : ℕ) → Fetches g A k s d → Fetches g B k s d
  fetches_among k f = record {
    maps = record { maps = maps_among k f.maps.maps; source = f.maps.source; destination = f.maps.destination };
    included = f.included;
  }

-- ---- an example on a remote with the same refs

abbrev pub names_of : List Ref → List (List ℕ)
names_of refs = map (λ (r : Ref). r.name) refs

module _ (refs : List Ref) (s : Source) (there : IsThere refs s) where
  abbrev pub beside : List Ref
  beside = refs_of s ++ map ref_named (names_of refs)

  named_there : (l : List Ref) (n : List ℕ) → HasName (map ref_named (names_of l)) n → HasName l n
  named_there [] n none = none
  named_there (r ∷ l) n (inl is) = inl is
  named_there (r ∷ l) n (inr more) = inr (named_there l n more)

  there_named : (l : List Ref) (n : List ℕ) → HasName l n → HasName (map ref_named (names_of l)) n
  there_named [] n none = none
  there_named (r ∷ l) n (inl is) = inl is
  there_named (r ∷ l) n (inr more) = inr (there_named l n more)

  pub among_refs : AreAmong beside refs
  among_refs n has = elim ((named_in (refs_of s) (map ref_named (names_of refs)) n).0 has)
      [ inl own ↦ own_among refs s there n own | inr other ↦ named_there refs n other ]

  pub refs_among : AreAmong refs beside
  refs_among n has = (named_in (refs_of s) (map ref_named (names_of refs)) n).1 (inr (there_named refs n has))

there_beside : (s : Source) (A B : List Ref) → AreAmong A B → IsThere A s → IsThere B s
there_beside (name n) A B among there = among n there
there_beside (id bytes) A B among there = tt

module _ (g h : List Reading) (refs : List Ref) (valid : AreValid refs) (s : Source) (d : Option (List ℕ)) where
  abbrev pub example_of : ℕ → PairExample
  example_of k = record { spec = k; source = s; destination = d; beside = names_of refs }

  -- what is fetched alone over any refs is so beside the source
  pub is_example : (k : ℕ) → FetchesAlone g h refs k s d → IsFetchedAlone g h k (example_of k)
  is_example k alone =
      let maps = alone.one.fetches.maps.maps in
      let there = made_there refs s d maps.completed maps.makes in
      let B = beside refs s there in
      let forth = among_refs refs s there in
      let back = refs_among refs s there in
      let own = there_beside s refs B back there in
      record {
        spec = refl;
        valid = valid_beside s (names_of refs) alone.one.fetches.maps.source
            (all_listed IsRefName (names_of refs) (λ n (i, below, is). each_named IsRefName refs n valid
            (named_there refs s there refs n (name_there (map ref_named (names_of refs)) (ref_named n)
            (mapped_there ref_named (names_of refs) n (i, below, is))))));
        alone = record {
          one = record {
            fetches = fetches_among g refs B s d own forth k alone.one.fetches;
            first = λ j below m. alone.one.first j below (maps_among g B refs s d there back j m);
          };
          other = λ (j, f). alone.other (j, fetches_among h B refs s d there back j f);
        };
      }

  module _ (none : (k : ℕ) → k < length g → (e : PairExample) → ¬ (IsFetchedAlone g h k e))
      (other : ¬ (FetchPair h refs s d)) where
    -- no value is the first that fetches the pair, so none fetches it
    none_fetches : (n k : ℕ) → k < n → ¬ (Fetches g refs k s d)
    none_fetches zero k below f = absurd (omega (arith, below))
    none_fetches (suc n) k below f = elim (upto k n (omega (arith, below))) [
      | inl earlier ↦ none_fetches n k earlier f
      | inr same ↦
          let first : FetchesFirst g refs k s d = record {
            fetches = f;
            first = λ j before m. none_fetches n j (omega (arith, before, same)) (record {
              maps = record { maps = m; source = f.maps.source; destination = f.maps.destination };
              included = f.included;
            });
          } in
          none k (slice_get_within g k f.maps.maps.reading f.maps.maps.at) (example_of k)
          (is_example k (record { one = first; other = other }))
    ]

    pub none_fetched : ¬ (FetchPair g refs s d)
    none_fetched (k, f) = none_fetches (k + 1) k (omega arith) f

-- ---- the examples that are found

-- nothing is made of any element
pub nothing_of : {X Y : Type 0} (R : ℕ → X → Y → Type 0) (m : ℕ) (xs : List X) → IsMadeFrom R m xs [] → (k : ℕ) (x : X)
    → slice_get xs k ≡ Some x → (y : Y) → ¬ (R (m + k) x y)
nothing_of R m [] made k x at y is = absurd (cc at)
nothing_of {X} {Y} R m (z ∷ xs) (None, rest, none, more, same) zero x at y is =
    let first : z ≡ x = cc at in
    none y (subst (λ (n : ℕ). R n z y) (omega arith) (subst (λ v. R (m + 0) v y) (sym first) is))
nothing_of {X} {Y} R m (z ∷ xs) (None, rest, none, more, same) (suc k) x at y is =
    nothing_of R (m + 1) xs (subst (IsMadeFrom R (m + 1) xs) (sym same) more) k x at y
    (subst (λ (n : ℕ). R n x y) (omega arith) is)
nothing_of {X} {Y} R m (z ∷ xs) (Some v, rest, makes, more, same) k x at y is = absurd (cc same)

pub something_of : {X Y : Type 0} (R : ℕ → X → Y → Type 0) (m : ℕ) (xs : List X) (y : Y) (ys : List Y)
    → IsMadeFrom R m xs (y ∷ ys) → (k : ℕ) × (x : X) × R k x y
something_of R m [] y ys made = absurd (cc made)
something_of {X} {Y} R m (z ∷ xs) y ys (None, rest, none, more, same) =
    something_of R (m + 1) xs y ys (subst (IsMadeFrom R (m + 1) xs) (sym same) more)
something_of {X} {Y} R m (z ∷ xs) y ys (Some v, rest, makes, more, same) =
    let first : y ≡ v = cc same in (m, z, subst (R m z) (sym first) makes)

pub there_at : (l : List Reading) (k : ℕ) → k < length l → (r : Reading) × (slice_get l k ≡ Some r)
there_at [] k below = absurd (omega (arith, below))
there_at (r ∷ l) zero below = (r, refl)
there_at (r ∷ l) (suc k) below = there_at l k (omega (arith, below))

pub none_beyond : (g h : List Reading) → AreFetchedAlone g h [] → ¬ (FetchesBeyond g h)
none_beyond g h made beyond =
    none_fetched g h beyond.refs beyond.valid beyond.source beyond.destination (λ k below e alone.
    let (r, at) = there_at g k below in
    nothing_of (λ k r e. IsFetchedAlone g h k e) 0 g made k r at e
    (subst (λ (n : ℕ). IsFetchedAlone g h n e) (omega arith) alone)) beyond.other beyond.fetches

pub some_beyond : (g h : List Reading) (e : PairExample) (found : List PairExample) → AreFetchedAlone g h (e ∷ found)
    → FetchesBeyond g h
some_beyond g h e found made =
    let (k, r, alone) = something_of (λ k r e. IsFetchedAlone g h k e) 0 g e found made in
    record {
      refs = refs_in e;
      valid = alone.valid;
      source = e.source;
      destination = e.destination;
      fetches = (k, alone.alone.one.fetches);
      other = alone.alone.other;
    }

-- so both lists of examples are empty exactly if the lists fetch alike
pub alike_unless_found : (g h : List Reading) (lost gained : List PairExample) → AreFetchedAlone g h lost
    → AreFetchedAlone h g gained
    → ((lost ≡ []) × (gained ≡ []) → FetchAlike g h) × (FetchAlike g h → (lost ≡ []) × (gained ≡ []))
alike_unless_found g h lost gained one other = (
  (λ (no_lost, no_gained). (
    none_beyond g h (subst (AreFetchedAlone g h) no_lost one),
    none_beyond h g (subst (AreFetchedAlone h g) no_gained other),
  )),
  (λ alike. (empty g h lost one alike.0, empty h g gained other alike.1)),
)
  where
    empty : (x y : List Reading) (found : List PairExample) → AreFetchedAlone x y found → ¬ (FetchesBeyond x y)
        → found ≡ []
    empty x y [] made none = refl
    empty x y (e ∷ found) made none = absurd (none (some_beyond x y e found made))
