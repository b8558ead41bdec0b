-- What a value of patterns fetches and the other list doesn't, it fetches at a name that decides, and the other list
-- doesn't fetch that either.
use Rattle.gix_refspec_lint.proofs.Common.{inl, inr, ◌≡◌, ℕ, List, [], Option, Some, map, refl, sym}
use Rattle.gix_refspec_lint.proofs.Common.{subst, AllZip, slice_get, Ref, HasName, Fits, IsPositive}
use Rattle.gix_refspec_lint.proofs.Common.{Reading, IsSplit, Lacks, reading_of, RefSpecRef, IsCompleted, name}
use Rattle.gix_refspec_lint.proofs.Common.{IsSourceExcluded, MakesForward, Fetches, IsFree, Maps, refs_of}
use Rattle.gix_refspec_lint.proofs.Common.{HasSourcePattern, IsDeciding, IsLongerPrefix, IsLongerSuffix, IsMost}
use Rattle.gix_refspec_lint.proofs.Common.{words_with, all_at, append-nil, arith, by_pattern, Negative}
use Rattle.gix_refspec_lint.proofs.Common.{SidesLack}
use Rattle.gix_refspec_lint.proofs.lemmas.ByteLemmas.{excluded_moved, lacks_in}
use Rattle.gix_refspec_lint.proofs.lemmas.DecideLemmas.{Decided, IsMoved, decide}
use Rattle.gix_refspec_lint.proofs.lemmas.IdleSpecLemmas.{maps_back}
use Rattle.gix_refspec_lint.proofs.lemmas.IndexLemmas.{accepted_of, excluded_at, made_there, maps_as, of_maps}
use Rattle.gix_refspec_lint.proofs.lemmas.IndexLemmas.{one_completed}
use Rattle.gix_refspec_lint.proofs.lemmas.MovedLemmas.{lacks_destination, lacks_parts, lacks_source}
use Rattle.gix_refspec_lint.proofs.lemmas.PatternLemmas.{PatternSpec, pattern_spec, spec_made}
use Rattle.gix_refspec_lint.specs.Matching.Lint.{AreValid}
use Rattle.gix_refspec_diff.specs.Matching.Difference.{FetchesAlone}
use Rattle.gix_refspec_diff.specs.Private.Searches.{AreNoneFrom}

module _ (z : ℕ) (g h : List Reading) (free : IsFree g z) (clear : IsFree h z) (cs ds : List RefSpecRef)
    (all : AllZip IsCompleted g (map reading_of cs)) (also : AllZip IsCompleted h (map reading_of ds))
    (k : ℕ) (c : Reading) (at : slice_get (map reading_of cs) k ≡ Some c) (positive : IsPositive c.mode)
    (p t : List ℕ) (source : HasSourcePattern c p t) where
  pub spec : PatternSpec c p t
  spec = pattern_spec c p t (accepted_of cs k c at) positive source

  module _ (a b prefix suffix : List ℕ) (most : ℕ) (longer : IsLongerPrefix a p prefix)
      (ends : IsLongerSuffix b t suffix) (is_most : IsMost a b p t prefix suffix most) (lacks : Lacks z prefix)
      (refs : List Ref) (n : List ℕ) (d : Option (List ℕ)) (v : List ℕ) (fits : Fits a b n v)
      (sought : FetchesAlone g h refs k (name n) d) where
    abbrev fetches : Fetches g refs k (name n) d
    fetches = sought.one.fetches

    makes : MakesForward refs (name n) d c
    makes = of_maps g (map reading_of cs) all k c at refs (name n) d fetches.maps.maps

    q : Decided z c a b prefix suffix most n d
    q = decide g z free c p t spec a b prefix suffix most longer ends is_most refs n d v fits
        (record { makes = makes; source = fetches.maps.source; destination = fetches.maps.destination })

    -- what either list maps there, over the ref alone, it maps over the refs
    back : (x : List Reading) (xs : List RefSpecRef) → IsFree x z → AllZip IsCompleted x (map reading_of xs)
        → IsMoved z c prefix n q.source d q.destination → (i : ℕ)
        → Maps x (refs_of (name q.source)) i (name q.source) q.destination → Maps x refs i (name n) d
    back x xs bare done moved i maps =
        let r = fetches.maps.maps.reading in
        let completed : IsCompleted r c = subst (IsCompleted r)
        (one_completed g (map reading_of cs) all k c at fetches.maps.maps) fetches.maps.maps.is in
        subst (λ m. Maps x refs i (name m) d) (sym moved.was)
        (maps_back z x bare xs done (refs_of (name q.source)) refs i moved.front moved.back moved.word d q.destination
        c prefix (subst (λ m. Maps x (refs_of (name q.source)) i (name m) q.destination) moved.is maps)
        (subst (HasName refs) moved.was (made_there refs (name n) d c makes)) (moved.lacks lacks) lacks moved.far
        (λ y before after has split. lacks_destination g z free k r c y before after fetches.maps.maps.at completed has
        split))

    -- so the pair is sought there too, if the other list doesn't fetch it for the reason that it doesn't fetch this one
    pub decided : AreValid refs
        → ((j : ℕ) (m : List ℕ) (e : Option (List ℕ)) (w : List ℕ) → Fits a b m w
        → Fetches h (refs_of (name m)) j (name m) e → Maps h refs j (name n) d → ⊥)
        → ((m : List ℕ) → IsDeciding (words_with z) prefix suffix most m
        → AreNoneFrom g h k (name m)) → ⊥
    decided valid refuses none = elim q.moved [
      | inl (same, far) ↦
          subst (λ m. AreNoneFrom g h k (name m)) same (none q.source q.deciding) refs d valid sought
      | inr moved ↦
          let few = refs_of (name q.source) in
          let sound = q.sound few (inl refl) in
          let maps : Maps g few k (name q.source) q.destination =
          maps_as fetches.maps.maps
          (subst (MakesForward few (name q.source) q.destination)
          (sym (one_completed g (map reading_of cs) all k c at fetches.maps.maps)) sound.makes) in
          none q.source q.deciding few q.destination (sound.source, tt) (record {
            one = record {
              fetches = record {
                maps = record { maps = maps; source = sound.source; destination = sound.destination };
                included = λ by. fetches.included (rw moved.was
                    (excluded_moved z free.usable g moved.front moved.word moved.back free.lacks
                    (subst (λ m. IsSourceExcluded g (name m)) moved.is by)));
              };
              first = λ i before also. sought.one.first i before (back g cs free all moved i also);
            };
            other = λ (j, f). refuses j q.source q.destination q.word q.fits f
                (back h ds clear also moved j f.maps.maps);
          })
    ]

  -- ---- the text before the star, and the one that both patterns have, lack the free byte

  module _ (refs : List Ref) (n : List ℕ) (d : Option (List ℕ))
      (sought : FetchesAlone g h refs k (name n) d) where
    lacks_own : Lacks z p
    lacks_own =
        let m = sought.one.fetches.maps.maps in
        let done : IsCompleted m.reading c = subst (IsCompleted m.reading)
        (one_completed g (map reading_of cs) all k c at m) m.is in
        (lacks_parts g z free source.text p t (lacks_source g z free k m.reading c source.text m.at done source.has)
        source.split).0

    -- if the other list doesn't exclude the name, one with a word decides
    pub own_decided : AreValid refs → ¬ (IsSourceExcluded h (name n))
        → ((m : List ℕ) → IsDeciding (words_with z) p t 0 m → AreNoneFrom g h k (name m)) → ⊥
    own_decided valid included none =
        let f = sought.one.fetches in
        let (v, fits, far, there) = spec_made c p t spec refs n d
        (of_maps g (map reading_of cs) all k c at refs (name n) d f.maps.maps) in
        decided p t p t 0 (record {
          one = record { after = []; here = sym (append-nil p) };
          other = record { after = []; here = sym (append-nil p) };
          is = inl refl;
        }) (record {
          one = record { before = []; here = refl };
          other = record { before = []; here = refl };
          is = inl refl;
        }) (λ i in_prefix in_suffix one other. omega (arith, one)) lacks_own refs n d v fits sought valid
        (λ j m e w fits fetched maps. sought.other (
          j,
          record {
            maps = record { maps = maps; source = f.maps.source; destination = f.maps.destination };
            included = included;
          },
        )) none

    -- if it does by a pattern, one decides that both have in common
    pub shared_decided : (i : ℕ) (r : Reading) → slice_get h i ≡ Some r → r.mode ≡ Negative → (text a b : List ℕ)
        → r.source ≡ Some text → IsSplit a b text → (v : List ℕ) → Fits a b n v → (prefix suffix : List ℕ) (most : ℕ)
        → IsLongerPrefix a p prefix → IsLongerSuffix b t suffix → IsMost a b p t prefix suffix most → AreValid refs
        → ((m : List ℕ) → IsDeciding (words_with z) prefix suffix most m → AreNoneFrom g h k (name m))
        → ⊥
    shared_decided i r here negative text a b has split v fits prefix suffix most longer ends is_most valid none =
        let side = lacks_in z clear.usable r.source text has (all_at (SidesLack z) h i r clear.lacks here).0 in
        let own = lacks_parts h z clear text a b side split in
        let lacks : Lacks z prefix = elim longer.is [ inl is ↦ rw is own.0 | inr is ↦ rw is lacks_own ] in
        decided a b prefix suffix most longer ends is_most lacks refs n d v fits sought valid
        (λ j m e w fits_too fetched maps. fetched.included (excluded_at h i r m here (record {
          negative = negative;
          text = text;
          source = has;
          excludes = by_pattern a b w split fits_too;
        }))) none
