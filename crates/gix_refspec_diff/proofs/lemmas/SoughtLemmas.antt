-- What one list does first with a pair, and the other besides, by what is found over refs of the same names.
use Rattle.gix_refspec_lint.proofs.Common.{MatchBool, AllByRecursion, AllZip, List, [], ◌∷◌, ◌++◌, Option}
use Rattle.gix_refspec_lint.proofs.Common.{Some, ◌≡◌, ℕ, ◌<◌, map, sym, subst, slice_get, Ref}
use Rattle.gix_refspec_lint.proofs.Common.{Reading, IsCompleted, Source, name, id, IsSourceExcluded, HaveSameNames}
use Rattle.gix_refspec_lint.proofs.Common.{MakesForward, IsRefName, IsValidSource, Maps, Fetches, MakesSoundly}
use Rattle.gix_refspec_lint.proofs.Common.{AreValid, refs_of, ref_named, Bool, CanBeWritten, IsExcludedBy, arith, false}
use Rattle.gix_refspec_lint.proofs.Common.{length, slice_get_within, true}
use Rattle.gix_refspec_lint.proofs.lemmas.FoundLemmas.{makes_also}
use Rattle.gix_refspec_lint.proofs.lemmas.IdleLemmas.{maps_also, one_far}
use Rattle.gix_refspec_lint.proofs.lemmas.IndexLemmas.{excluded_at, maps_of, of_maps}
use Rattle.gix_refspec_diff.specs.Matching.Difference.{FetchPair, FetchesAlone, FetchesFirst}
use Rattle.gix_refspec_diff.specs.Private.Searches.{IsLeft}

-- ---- refs of the same names

pub fetches_named : (g : List Reading) (A B : List Ref) (k : ℕ) (s : Source) (d : Option (List ℕ)) → HaveSameNames A B
    → Fetches g A k s d → Fetches g B k s d
fetches_named g A B k s d same f =
    record {
      maps = record {
        maps = maps_also g A B k s d same f.maps.maps;
        source = f.maps.source;
        destination = f.maps.destination;
      };
      included = f.included;
    }

first_named : (g : List Reading) (A B : List Ref) (k : ℕ) (s : Source) (d : Option (List ℕ)) → HaveSameNames A B
    → FetchesFirst g A k s d → FetchesFirst g B k s d
first_named g A B k s d same f =
    record {
      fetches = fetches_named g A B k s d same f.fetches;
      first = λ h below m. f.first h below (maps_also g B A h s d (sym same) m);
    }

unfetched_named : (h : List Reading) (A B : List Ref) (s : Source) (d : Option (List ℕ)) → HaveSameNames A B
    → ¬ (FetchPair h A s d) → ¬ (FetchPair h B s d)
unfetched_named h A B s d same none (j, f) = none (j, fetches_named h B A j s d (sym same) f)

-- ---- what the value at an index is found to do over refs, that has this completed reading

module _ (g h : List Reading) (cs : List Reading) (all : AllZip IsCompleted g cs) (k : ℕ) (c : Reading)
    (at : slice_get cs k ≡ Some c) (s : Source) (A B : List Ref) (same : HaveSameNames A B) where
  made_so : (d : Option (List ℕ)) → FetchesAlone g h B k s d → MakesForward A s d c
  made_so d sought = makes_also B A s d c (sym same) (of_maps g cs all k c at B s d sought.one.fetches.maps.maps)

  -- it maps the source to no valid destination
  pub none_made : ((d : Option (List ℕ)) → ¬ (MakesSoundly A s d c)) → (d : Option (List ℕ))
      → ¬ (FetchesAlone g h B k s d)
  none_made none d sought = none d (record {
    makes = made_so d sought;
    source = sought.one.fetches.maps.source;
    destination = sought.one.fetches.maps.destination;
  })

  module _ (d : Option (List ℕ)) (makes : MakesSoundly A s d c) where
    one_destination : (e : Option (List ℕ)) → FetchesAlone g h B k s e → FetchesAlone g h B k s d
    one_destination e sought =
        subst (FetchesAlone g h B k s) (one_far A A s e d c (made_so e sought) makes.makes) sought

    -- the pair isn't left to it
    pub none_so : ¬ (IsLeft g h A k s d) → (e : Option (List ℕ)) → ¬ (FetchesAlone g h B k s e)
    none_so none e sought =
        let o = one_destination e sought in
        none (
          (λ j below m. o.one.first j below (maps_also g A B j s d same m)),
          unfetched_named h B A s d (sym same) o.other,
        )

    -- or it is
    pub is_sought : ¬ (IsSourceExcluded g s) → ((j : ℕ) → j < k → ¬ (Maps g A j s d)) → ¬ (FetchPair h A s d)
        → FetchesAlone g h B k s d
    is_sought included first unfetched = record {
      one = first_named g A B k s d same (record {
        fetches = record {
          maps = record {
            maps = maps_of g cs all k c at A s d makes.makes;
            source = makes.source;
            destination = makes.destination;
          };
          included = included;
        };
        first = first;
      });
      other = unfetched_named h A B s d same unfetched;
    }

-- ---- remotes with valid names

pub valid_named : (names : List (List ℕ)) → AllByRecursion IsRefName names → AreValid (map ref_named names)
valid_named [] all = tt
valid_named (n ∷ names) all = (all.0, valid_named names all.1)

pub valid_beside : (s : Source) (names : List (List ℕ)) → IsValidSource s → AllByRecursion IsRefName names
    → AreValid (refs_of s ++ map ref_named names)
valid_beside (name n) names valid all = (valid, valid_named names all)
valid_beside (id bytes) names valid all = valid_named names all

-- ---- what a list does with a valid pair

module _ (h : List Reading) (refs : List Ref) (s : Source) (d : Option (List ℕ)) (valid : IsValidSource s)
    (written : CanBeWritten d) where
  pub fetches_of : (j : ℕ) → Maps h refs j s d → ¬ (IsSourceExcluded h s) → Fetches h refs j s d
  fetches_of j m included = record {
    maps = record { maps = m; source = valid; destination = written };
    included = included;
  }

  -- it fetches nothing that is excluded
  pub excluded_unfetched : (k : ℕ) (n : List ℕ) (r : Reading) → s ≡ name n → slice_get h k ≡ Some r → IsExcludedBy n r
      → ¬ (FetchPair h refs s d)
  excluded_unfetched k n r named here by (j, f) =
      f.included (subst (IsSourceExcluded h) (sym named) (excluded_at h k r n here by))

  -- nor what no value maps
  pub unmapped_unfetched : (count : ℕ) → length h ≡ count → ((j : ℕ) → j < count → ¬ (Maps h refs j s d))
      → ¬ (FetchPair h refs s d)
  unmapped_unfetched count long none (j, f) =
      none j (omega (arith, long, slice_get_within h j f.maps.maps.reading f.maps.maps.at)) f.maps.maps

-- ---- what is found of both lists

module _ (g h : List Reading) (k : ℕ) (refs : List Ref) (s : Source) (d e : Option (List ℕ)) (same : d ≡ e) where
  -- an earlier value maps the pair
  pub not_first : (j : ℕ) × (j < k) × Maps g refs j s d → ¬ (IsLeft g h refs k s e)
  not_first (j, below, m) both = both.0 j below (subst (Maps g refs j s) same m)

  -- none does, so the other list decides
  pub by_other : ((j : ℕ) → j < k → ¬ (Maps g refs j s d)) → (does : Bool)
      → MatchBool does (¬ (FetchPair h refs s d)) (FetchPair h refs s d)
      → MatchBool does (IsLeft g h refs k s e) (¬ (IsLeft g h refs k s e))
  by_other first true none = subst (IsLeft g h refs k s) same (first, none)
  by_other first false fetched = λ both. (subst (IsLeft g h refs k s) (sym same) both).1 fetched
