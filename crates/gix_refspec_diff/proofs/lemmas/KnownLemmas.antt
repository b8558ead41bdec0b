-- Values that both lists have, and what the other list alone excludes.
use Rattle.gix_refspec_diff.proofs.Common.{AllZip, Contains, IsCompleted, List, MakesForward, None, Option}
use Rattle.gix_refspec_diff.proofs.Common.{Reading, Ref, Some, Source, ap, id, inl, inr}
use Rattle.gix_refspec_diff.proofs.Common.{name, slice_get, slice_get_within, subst, sym, ℕ, ◌∙◌}
use Rattle.gix_refspec_diff.proofs.Common.{◌≡◌, ◌⊎◌, IsSourceExcluded}
use Rattle.gix_refspec_lint.proofs.Common.{IsExcludedBy, IsFilled, get_or_from_slice_get, slice_get-get_or}
use Rattle.gix_refspec_lint.proofs.lemmas.IndexLemmas.{by_index, completed_at, excluded_at, maps_of, of_maps, zip_of}
use Rattle.gix_refspec_diff.specs.Matching.Difference.{FetchPair, FetchesFirst}
use Rattle.gix_refspec_diff.specs.Private.Searches.{AreNewExclusions, HasSides, HasSidesBefore, HaveSides}

-- ---- a value that both lists have

made_alike : (b c : Reading) → HaveSides b c → (refs : List Ref) (s : Source) (d : Option (List ℕ))
    → MakesForward refs s d c → MakesForward refs s d b
made_alike b c same refs (name n) d makes = record {
  ends = makes.ends;
  has = record {
    positive = same.positive makes.has.positive;
    near = same.source ∙ makes.has.near;
    far = same.destination ∙ makes.has.far;
    no_object = makes.has.no_object;
  };
  one = makes.one;
}
made_alike b c same refs (id bytes) d makes = record {
  positive = same.positive makes.positive;
  text = makes.text;
  side = same.source ∙ makes.side;
  object = makes.object;
  becomes = subst (λ e. IsFilled e None d) (sym same.destination) makes.becomes;
}

-- a value is in its list
pub contained_at : (l : List Reading) (i : ℕ) (e : Reading) → slice_get l i ≡ Some e → Contains l e
contained_at l i e at = (i, slice_get_within l i e at, get_or_from_slice_get l i e e at)

module _ (g h cs ds : List Reading) (all : AllZip IsCompleted g cs) (also : AllZip IsCompleted h ds) where
  -- what it fetches first the other list fetches too, if it doesn't exclude the source
  pub known_fetched : (k : ℕ) (c : Reading) → slice_get cs k ≡ Some c → HasSides ds c ⊎ HasSidesBefore cs k c
      → (refs : List Ref) (s : Source) (d : Option (List ℕ)) → FetchesFirst g refs k s d → ¬ (IsSourceExcluded h s)
      → FetchPair h refs s d
  known_fetched k c at (inl (j, b, here, same)) refs s d f included = (
    j,
    record {
      maps = record {
        maps = maps_of h ds also j b here refs s d
            (made_alike b c same refs s d (of_maps g cs all k c at refs s d f.fetches.maps.maps));
        source = f.fetches.maps.source;
        destination = f.fetches.maps.destination;
      };
      included = included;
    },
  )
  known_fetched k c at (inr (j, b, below, here, same)) refs s d f included =
      absurd (f.first j below (maps_of g cs all j b here refs s d
      (made_alike b c same refs s d (of_maps g cs all k c at refs s d f.fetches.maps.maps))))

  -- ---- what the other list excludes

  -- a negative value of the other list excludes the name, and one of the new ones has its source
  pub record IsNewlyExcluded (fresh : List Reading) (n : List ℕ) : Type 0 where
    pub index : ℕ
    pub reading : Reading
    pub here : slice_get h index ≡ Some reading
    pub excludes : IsExcludedBy n reading
    pub exclusion : Reading
    pub is_new : Contains fresh exclusion
    pub same : exclusion.source ≡ reading.source

  -- so it is if the one list doesn't exclude it
  pub newly_excluded : (fresh : List Reading) → AreNewExclusions cs ds fresh → (n : List ℕ)
      → IsSourceExcluded h (name n) → ¬ (IsSourceExcluded g (name n)) → IsNewlyExcluded fresh n
  newly_excluded fresh new n by included =
      let (i, r, here, one) = by_index h n by in
      let (e, there, done) = completed_at h ds also i r here in
      elim (new e (contained_at ds i e there) (done.mode ∙ one.negative)) [
        | inl (q, is_new, negative, same) ↦ record {
          index = i;
          reading = r;
          here = here;
          excludes = one;
          exclusion = q;
          is_new = is_new;
          same = same ∙ done.source;
        }
        | inr (q, (j, below, is), negative, same) ↦
            let (p, at, first) = zip_of g cs all j q (slice_get-get_or cs j q below ∙ ap Some is) in
            absurd (included (excluded_at g j p n at (record {
              negative = sym first.mode ∙ negative;
              text = one.text;
              source = sym first.source ∙ same ∙ done.source ∙ one.source;
              excludes = one.excludes;
            })))
      ]
