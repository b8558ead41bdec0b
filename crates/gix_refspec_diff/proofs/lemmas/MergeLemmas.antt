-- What `git pull` merges by one of two lists alone, by what is found beside the refs that the other one prefers.
use Rattle.gix_refspec_diff.proofs.Common.{AllZip, AreAbsent, ArePreferred, Contains, HasName}
use Rattle.gix_refspec_diff.proofs.Common.{IsCompleted, IsRefName, IsSourceExcluded, List, MakesForward, MakesSoundly}
use Rattle.gix_refspec_diff.proofs.Common.{Option, Reading, Ref, RefSpecRef, Some, Source, [], ap, arith, inl, inr}
use Rattle.gix_refspec_diff.proofs.Common.{length, map, name, reading_of, ref_named, refs_of, same_Some, slice_get}
use Rattle.gix_refspec_diff.proofs.Common.{slice_get_within, subst, sym, zero, ℕ, ◌∙◌, ◌≡◌}
use Rattle.gix_refspec_lint.proofs.Common.{HasPlainSource, HaveSameNames, IsExcludedBy, IsSplit, length-map}
use Rattle.gix_refspec_lint.proofs.lemmas.IndexLemmas.{IsThere, all_listed, excluded_at, made_there, maps_as, named_in}
use Rattle.gix_refspec_lint.proofs.lemmas.IndexLemmas.{of_maps, one_completed, zip_of, zip_to}
use Rattle.gix_refspec_diff.proofs.lemmas.BlockerLemmas.{absent_beside, freed}
use Rattle.gix_refspec_diff.proofs.lemmas.KnownLemmas.{contained_at}
use Rattle.gix_refspec_diff.proofs.lemmas.SoughtLemmas.{fetches_named, valid_beside}
use Rattle.gix_refspec_diff.specs.Matching.Difference.{MergesAlone, MergesBeyond, MergesSource}
use Rattle.gix_refspec_diff.specs.Private.Searches.{AddBlockers, IsPlainFirst, refs_beside}

-- ---- the first value

pub none_plain : (cs : List RefSpecRef) → length cs ≡ 0 → ¬ (IsPlainFirst (map reading_of cs))
none_plain cs none (c, at, plain) =
    omega (arith, none, length-map cs reading_of, slice_get_within (map reading_of cs) zero c at)

pub starred : (cs : List Reading) (r : Reading) (x before after : List ℕ) → slice_get cs zero ≡ Some r
    → r.source ≡ Some x → IsSplit before after x → ¬ (IsPlainFirst cs)
starred cs r x before after at has split (c, here, plain) =
    plain x before after (subst (λ (q : Reading). q.source ≡ Some x) (same_Some _ _ (sym at ∙ here)) has) split

module _ (g cs : List Reading) (all : AllZip IsCompleted g cs) where
  -- where something is merged it has no star
  pub plain_merged : (refs : List Ref) (s : Source) → MergesSource g refs s → IsPlainFirst cs
  plain_merged refs s m =
      let maps = m.fetches.maps.maps in
      let readings : m.reading ≡ maps.reading = same_Some _ _ (sym m.at ∙ maps.at) in (
        maps.completed,
        zip_to g cs all zero maps.reading maps.completed maps.at maps.is,
        (λ x before after is split. m.plain x
            (ap (λ (q : Reading). q.source) readings ∙ sym maps.is.source ∙ is) (before, after, split)),
      )

  module _ (c : Reading) (at : slice_get cs zero ≡ Some c) (A : List Ref) (s : Source) where
    -- what it maps soundly is merged, if nothing excludes it
    pub merged : (d : Option (List ℕ)) → HasPlainSource c → MakesSoundly A s d c → ¬ (IsSourceExcluded g s)
        → MergesSource g A s
    merged d plain makes included =
        let (r, here, done) = zip_of g cs all zero c at in
        record {
          reading = r;
          at = here;
          plain = λ x is one. plain x one.0 one.1 (done.source ∙ is) one.2;
          destination = d;
          fetches = record {
            maps = record {
              maps = record { reading = r; at = here; completed = c; is = done; makes = makes.makes };
              source = makes.source;
              destination = makes.destination;
            };
            included = included;
          };
        }

    pub unmerged : ((d : Option (List ℕ)) → ¬ (MakesSoundly A s d c)) → ¬ (MergesSource g A s)
    unmerged none m = none m.destination (record {
      makes = of_maps g cs all zero c at A s m.destination m.fetches.maps.maps;
      source = m.fetches.maps.source;
      destination = m.fetches.maps.destination;
    })

pub excluded_unmerged : (g : List Reading) (A : List Ref) (s : Source) (k : ℕ) (n : List ℕ) (r : Reading) → s ≡ name n
    → slice_get g k ≡ Some r → IsExcludedBy n r → ¬ (MergesSource g A s)
excluded_unmerged g A s k n r named here by m =
    m.fetches.included (subst (IsSourceExcluded g) (sym named) (excluded_at g k r n here by))

merges_named : (g : List Reading) (A B : List Ref) (s : Source) → HaveSameNames A B → MergesSource g A s
    → MergesSource g B s
merges_named g A B s same m = record {
  reading = m.reading;
  at = m.at;
  plain = m.plain;
  destination = m.destination;
  fetches = fetches_named g A B zero s m.destination same m.fetches;
}

-- ---- beside the refs that the other list prefers

module _ (g h : List Reading) (cs ds : List RefSpecRef) (all : AllZip IsCompleted g (map reading_of cs))
    (also : AllZip IsCompleted h (map reading_of ds)) (c : Reading) (at : slice_get (map reading_of cs) zero ≡ Some c)
    (s : Source) (away names : List (List ℕ)) (kept : ArePreferred c s away)
    (adds : AddBlockers (map reading_of ds) s away [] names) where
  told : (n : List ℕ) → Contains names n → IsRefName n × ¬ (Contains away n)
  told n there = elim (adds.only n there) [ inr is ↦ is | inl (i, below, is) ↦ absurd (omega (arith, below)) ]

  module _ (a : MergesAlone g h s) where
    makes : MakesForward a.refs s a.merges.destination c
    makes =
        of_maps g (map reading_of cs) all zero c at a.refs s a.merges.destination a.merges.fetches.maps.maps

    absent : AreAbsent away a.refs
    absent = kept.absent a.refs a.merges.destination makes

    there : IsThere a.refs s
    there = made_there a.refs s a.merges.destination c makes

    own : (n : List ℕ) → HasName (refs_of s) n → HasName (refs_beside s names) n
    own n has = (named_in (refs_of s) (map ref_named names) n).1 (inl has)

    one_beside : MergesSource g (refs_beside s names) s
    one_beside =
        let f = a.merges.fetches in
        let apart = absent_beside s away names a.refs absent there (λ n has. (told n has).1) in
        record {
          reading = a.merges.reading;
          at = a.merges.at;
          plain = a.merges.plain;
          destination = a.merges.destination;
          fetches = record {
            maps = record {
              maps = maps_as f.maps.maps (subst (MakesForward (refs_beside s names) s a.merges.destination)
                  (sym (one_completed g (map reading_of cs) all zero c at f.maps.maps))
                  (kept.enough a.refs (refs_beside s names) a.merges.destination makes own apart));
              source = f.maps.source;
              destination = f.maps.destination;
            };
            included = f.included;
          };
        }

    other_beside : ¬ (MergesSource h (refs_beside s names) s)
    other_beside m =
        let f = m.fetches in
        let maps = f.maps.maps in
        let (others, are, has) = adds.preferred maps.completed (contained_at (map reading_of ds) zero maps.completed
        (zip_to h (map reading_of ds) also zero maps.reading maps.completed maps.at maps.is)) in
        a.other (record {
          reading = m.reading;
          at = m.at;
          plain = m.plain;
          destination = m.destination;
          fetches = record {
            maps = record {
              maps = maps_as maps
                  (freed s away names a.refs m.destination maps.completed others a.valid absent there are has
                  maps.makes);
              source = f.maps.source;
              destination = f.maps.destination;
            };
            included = f.included;
          };
        })

  module _ (A : List Ref) (same : HaveSameNames A (refs_beside s names)) where
    -- the one list doesn't merge the source there, so nowhere
    pub nowhere : ¬ (MergesSource g A s) → ¬ (MergesAlone g h s)
    nowhere none a = none (merges_named g (refs_beside s names) A s (sym same) (one_beside a))

    -- the other list merges it too
    pub everywhere : MergesSource h A s → ¬ (MergesAlone g h s)
    everywhere too a = other_beside a (merges_named h A (refs_beside s names) s same too)

    pub alone_there : MergesSource g A s → ¬ (MergesSource h A s) → MergesAlone g h s
    alone_there one none = record {
      refs = refs_beside s names;
      valid = valid_beside s names one.fetches.maps.source (all_listed IsRefName names (λ n has. (told n has).0));
      merges = merges_named g A (refs_beside s names) s same one;
      other = λ m. none (merges_named h (refs_beside s names) A s (sym same) m);
    }

-- ---- all sources of the first value

module _ (g h : List Reading) (cs : List Reading) (all : AllZip IsCompleted g cs) where
  pub no_first : ¬ (IsPlainFirst cs) → ¬ (MergesBeyond g h)
  no_first none (s, a) = none (plain_merged g cs all a.refs s a.merges)

  pub no_source : (c : Reading) → slice_get cs zero ≡ Some c → (sources : List Source)
      → ((refs : List Ref) (s : Source) (d : Option (List ℕ)) → MakesForward refs s d c → Contains sources s)
      → ((s : Source) → Contains sources s → ¬ (MergesAlone g h s)) → ¬ (MergesBeyond g h)
  no_source c at sources has none (s, a) = none s
      (has a.refs s a.merges.destination
      (of_maps g cs all zero c at a.refs s a.merges.destination a.merges.fetches.maps.maps)) a
