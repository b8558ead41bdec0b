-- Refs beside which no other value takes a source than takes it beside any.
use Rattle.gix_refspec_diff.proofs.Common.{AllZip, AreAbsent, AreAllowed, ArePreferred, AreValid}
use Rattle.gix_refspec_diff.proofs.Common.{BString, Contains, HasName, IsCompleted, IsRefName, List, MakesForward, Maps}
use Rattle.gix_refspec_diff.proofs.Common.{Option, Reading, Ref, RefSpecRef, Some, Source, [], arith, bstring_bytes}
use Rattle.gix_refspec_diff.proofs.Common.{get_or, inl, inr, length, map, map-append, of_element, reading_of, ref_named}
use Rattle.gix_refspec_diff.proofs.Common.{refs_of, slice_get, subst, sym, take}
use Rattle.gix_refspec_diff.proofs.Common.{ℕ, ◌++◌, ◌+◌, ◌<◌, ◌∷◌, ◌≡◌}
use Rattle.gix_refspec_lint.proofs.Common.{Contains-push_cases}
use Rattle.gix_refspec_lint.proofs.Common.{map_each, mapped_there}
use Rattle.gix_refspec_lint.proofs.lemmas.IdleLemmas.{each_named}
use Rattle.gix_refspec_lint.proofs.lemmas.IndexLemmas.{IsThere, all_listed, made_there, maps_as, named_in, of_maps}
use Rattle.gix_refspec_lint.proofs.lemmas.IndexLemmas.{one_completed, own_among, zip_to}
use Rattle.gix_refspec_lint.proofs.lemmas.TrackLemmas.{taken_at}
use Rattle.gix_refspec_text.proofs.lemmas.lists.MapLemmas.{map_next}
use Rattle.std.proofs.lemmas.List.{take-map}
use Rattle.gix_refspec.proofs.lemmas.keep.FilterLemmas.{name_there}
use Rattle.gix_refspec_diff.proofs.lemmas.KnownLemmas.{contained_at}
use Rattle.gix_refspec_diff.specs.Matching.Difference.{FetchPair, FetchesAlone}
use Rattle.gix_refspec_diff.specs.Private.Searches.{AddBlockers, AreBlockers, refs_beside}

-- ---- lists of names

pub none_added : (s : Source) (away old : List (List ℕ)) → AddBlockers [] s away old old
none_added s away old = record {
  has_old = λ n there. there;
  only = λ n there. inl there;
  preferred = λ c (i, below, is). absurd (omega (arith, below));
}

-- one more spec
pub added_next : (specs : List RefSpecRef) (i : ℕ) (x : RefSpecRef) (s : Source)
    (away old now new before : List (List ℕ))
    → i < length specs → x ≡ get_or specs i x → ArePreferred (reading_of x) s before → AreAllowed now before away new
    → AddBlockers (map reading_of (take i specs)) s away old now
    → AddBlockers (map reading_of (take (i + 1) specs)) s away old new
added_next specs i x s away old now new before below at preferred allowed so_far =
    rw (map_next reading_of specs i x below at) (record {
      has_old = λ n there. allowed.has_old n (so_far.has_old n there);
      only = λ n there. elim (allowed.only n there)
          [ inl earlier ↦ so_far.only n earlier | inr fresh ↦ inr fresh ];
      preferred = λ c there. elim (Contains-push_cases (map reading_of (take i specs)) (reading_of x) c there) [
        | inl earlier ↦
            let (names, are, has) = so_far.preferred c earlier in
            (names, are, λ n of valid free. allowed.has_old n (has n of valid free))
        | inr same ↦ (before, subst (λ r. ArePreferred r s before) same preferred, allowed.has)
      ];
    })

-- a name that is there already isn't added
pub allowed_there : (old : List (List ℕ)) (others : List BString) (away now : List (List ℕ)) (b : BString)
    → AreAllowed old (map bstring_bytes others) away now → Contains now (bstring_bytes b)
    → AreAllowed old (map bstring_bytes (others ++ b ∷ [])) away now
allowed_there old others away now b so_far there = rw (map-append bstring_bytes others (b ∷ [])) (record {
  has_old = so_far.has_old;
  has = λ m one valid free. elim (Contains-push_cases (map bstring_bytes others) (bstring_bytes b) m one)
      [ inl earlier ↦ so_far.has m earlier valid free | inr same ↦ subst (Contains now) same there ];
  only = so_far.only;
})

-- ---- a value that is blocked beside them is blocked beside the others

module _ (s : Source) (away names : List (List ℕ)) where
  -- what takes the source there takes it over refs that have no name that is kept away
  pub freed : (refs : List Ref) (d : Option (List ℕ)) (c : Reading) (others : List (List ℕ)) → AreValid refs
      → AreAbsent away refs → IsThere refs s → ArePreferred c s others
      → ((n : List ℕ) → Contains others n → IsRefName n → ¬ (Contains away n) → Contains names n)
      → MakesForward (refs_beside s names) s d c → MakesForward refs s d c
  freed refs d c others valid absent there preferred has makes =
      preferred.enough (refs_beside s names) refs d makes (own_among refs s there)
      (all_listed (λ n. ¬ (HasName refs n)) others (λ n of present.
      let free = has n of (each_named IsRefName refs n valid present)
      (λ kept. of_element (λ m. ¬ (HasName refs m)) away n absent kept present) in
      of_element (λ m. ¬ (HasName (refs_beside s names) m)) others n
      (preferred.absent (refs_beside s names) d makes) of
      ((named_in (refs_of s) (map ref_named names) n).1
      (inr (name_there (map ref_named names) (ref_named n) (mapped_there ref_named names n free))))))

  -- names that aren't kept away leave the others absent
  pub absent_beside : (refs : List Ref) → AreAbsent away refs → IsThere refs s
      → ((n : List ℕ) → Contains names n → ¬ (Contains away n)) → AreAbsent away (refs_beside s names)
  absent_beside refs absent there apart =
      let named = map_each (Contains names) (λ (r : Ref). Contains names r.name) ref_named (λ n there. there) names
      (all_listed (Contains names) names (λ n there. there)) in
      all_listed (λ n. ¬ (HasName (refs_beside s names) n)) away
      (λ n kept has. elim ((named_in (refs_of s) (map ref_named names) n).0 has) [
        | inl own ↦ of_element (λ m. ¬ (HasName refs m)) away n absent kept (own_among refs s there n own)
        | inr other ↦ apart n (each_named (Contains names) (map ref_named names) n named other) kept
      ])

-- ---- what is sought over any refs is sought beside them

-- an earlier value is one of those before an index
pub within_take : (cs : List RefSpecRef) (k i : ℕ) (c : Reading) → i < k → slice_get (map reading_of cs) i ≡ Some c
    → Contains (map reading_of (take k cs)) c
within_take cs k i c below at =
    subst (λ l. Contains l c) (take-map reading_of k cs) (taken_at (map reading_of cs) k i c below at)

module _ (g h : List Reading) (cs ds : List RefSpecRef) (all : AllZip IsCompleted g (map reading_of cs))
    (also : AllZip IsCompleted h (map reading_of ds)) (k : ℕ) (c : Reading)
    (at : slice_get (map reading_of cs) k ≡ Some c) (s : Source) (away mid names : List (List ℕ))
    (kept : ArePreferred c s away)
    (first : AddBlockers (map reading_of (take k cs)) s away [] mid)
    (second : AddBlockers (map reading_of ds) s away mid names) where
  told : (n : List ℕ) → Contains names n → IsRefName n × ¬ (Contains away n)
  told n there = elim (second.only n there) [
    | inr is ↦ is
    | inl old ↦ elim (first.only n old) [ inr is ↦ is | inl (i, below, is) ↦ absurd (omega (arith, below)) ]
  ]

  module _ (refs : List Ref) (d : Option (List ℕ)) (valid : AreValid refs) (sought : FetchesAlone g h refs k s d) where
    makes : MakesForward refs s d c
    makes = of_maps g (map reading_of cs) all k c at refs s d sought.one.fetches.maps.maps

    absent : AreAbsent away refs
    absent = kept.absent refs d makes

    there : IsThere refs s
    there = made_there refs s d sought.one.fetches.maps.maps.completed sought.one.fetches.maps.maps.makes

    own : (n : List ℕ) → HasName (refs_of s) n → HasName (refs_beside s names) n
    own n has = (named_in (refs_of s) (map ref_named names) n).1 (inl has)

    apart : AreAbsent away (refs_beside s names)
    apart = absent_beside s away names refs absent there (λ n has. (told n has).1)

    -- what an earlier value of the one list, or one of the other, maps beside them it maps over the refs
    earlier : (i : ℕ) → i < k → Maps g (refs_beside s names) i s d → Maps g refs i s d
    earlier i before m =
        let (others, are, has) = first.preferred m.completed (within_take cs k i m.completed before
        (zip_to g (map reading_of cs) all i m.reading m.completed m.at m.is)) in
        maps_as m (freed s away names refs d m.completed others valid absent there are
        (λ n of named free. second.has_old n (has n of named free)) m.makes)

    other : (i : ℕ) → Maps h (refs_beside s names) i s d → Maps h refs i s d
    other i m =
        let (others, are, has) = second.preferred m.completed (contained_at (map reading_of ds) i m.completed
        (zip_to h (map reading_of ds) also i m.reading m.completed m.at m.is)) in
        maps_as m (freed s away names refs d m.completed others valid absent there are has m.makes)

    unfetched : ¬ (FetchPair h (refs_beside s names) s d)
    unfetched (j, f) = sought.other (
      j,
      record {
        maps = record { maps = other j f.maps.maps; source = f.maps.source; destination = f.maps.destination };
        included = f.included;
      },
    )

    sought_beside : FetchesAlone g h (refs_beside s names) k s d
    sought_beside = record {
      one = record {
        fetches = record {
          maps = record {
            maps = maps_as sought.one.fetches.maps.maps (subst (MakesForward (refs_beside s names) s d)
                (sym (one_completed g (map reading_of cs) all k c at sought.one.fetches.maps.maps))
                (kept.enough refs (refs_beside s names) d makes own apart));
            source = sought.one.fetches.maps.source;
            destination = sought.one.fetches.maps.destination;
          };
          included = sought.one.fetches.included;
        };
        first = λ i before m. sought.one.first i before (earlier i before m);
      };
      other = unfetched;
    }

  pub are_blockers : AreBlockers g h k s names
  are_blockers = record { valid = all_listed IsRefName names (λ n has. (told n has).0); enough = sought_beside }
