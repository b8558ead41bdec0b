-- What a value fetches first and the other list doesn't fetch, it does so with a source that decides: one of its own,
-- or one that it shares with a negative value of the other list.
use Rattle.gix_refspec_diff.proofs.Common.{AllByRecursion, AllZip, AreValid, Contains, IsCompleted, IsFree, IsPositive}
use Rattle.gix_refspec_diff.proofs.Common.{IsSourceExcluded, List, MakesForward, Negative, Option, Reading, Ref}
use Rattle.gix_refspec_diff.proofs.Common.{RefSpecRef, Some, Source, [], ap, arith, id, inl, inr, map, name, of_element}
use Rattle.gix_refspec_diff.proofs.Common.{reading_of, same_Some, slice_get, subst, sym, ℕ, ◌++◌, ◌∙◌, ◌∷◌, ◌≡◌, ◌⊎◌}
use Rattle.gix_refspec_lint.proofs.Common.{HasSourcePattern, IsExcludedBy, IsLongerPrefix, IsLongerSuffix, IsSplit}
use Rattle.gix_refspec_lint.proofs.Common.{Lacks, by_pattern, lacks_no_pattern, mapped_there, split_once, star}
use Rattle.gix_refspec_lint.proofs.Common.{the_name, words_with}
use Rattle.gix_refspec_lint.proofs.lemmas.{IndexLemmas.of_maps, OneSpecLemmas.makes_positive}
use Rattle.gix_refspec_lint.proofs.lemmas.PatternLemmas.{spec_made}
use Rattle.gix_refspec_diff.proofs.lemmas.KnownLemmas.{known_fetched, newly_excluded}
use Rattle.gix_refspec_diff.proofs.lemmas.LiftLemmas.{own_decided, shared_decided, spec}
use Rattle.gix_refspec_diff.specs.Matching.Difference.{FetchesAlone}
use Rattle.gix_refspec_diff.specs.Private.Searches.{AreNewExclusions, AreNoneFrom, FetchesNone, HasSides}
use Rattle.gix_refspec_diff.specs.Private.Searches.{HasSidesBefore, NoneByExclusion, side_names, with_words}

-- ---- the texts of two patterns in the other order

longer_flipped : (x y longer : List ℕ) → IsLongerPrefix x y longer → IsLongerPrefix y x longer
longer_flipped x y longer is = record {
  one = is.other;
  other = is.one;
  is = elim is.is [ inl same ↦ inr same | inr same ↦ inl same ];
}

ending_flipped : (x y longer : List ℕ) → IsLongerSuffix x y longer → IsLongerSuffix y x longer
ending_flipped x y longer is = record {
  one = is.other;
  other = is.one;
  is = elim is.is [ inl same ↦ inr same | inr same ↦ inl same ];
}

-- ---- one value

module _ (z : ℕ) (g h : List Reading) (free : IsFree g z) (clear : IsFree h z) (cs ds : List RefSpecRef)
    (all : AllZip IsCompleted g (map reading_of cs)) (also : AllZip IsCompleted h (map reading_of ds))
    (fresh : List Reading) (new : AreNewExclusions (map reading_of cs) (map reading_of ds) fresh)
    (k : ℕ) (c : Reading) (at : slice_get (map reading_of cs) k ≡ Some c) where
  -- no pair with this source is fetched by it alone
  abbrev pub NoneFrom : Source → Type 0
  NoneFrom = AreNoneFrom g h k

  made : (refs : List Ref) (s : Source) (d : Option (List ℕ)) → FetchesAlone g h refs k s d
      → MakesForward refs s d c
  made refs s d sought = of_maps g (map reading_of cs) all k c at refs s d sought.one.fetches.maps.maps

  -- ---- one without a star, or negative

  -- none with those that it names
  pub named_none : (sources : List Source)
      → ((refs : List Ref) (s : Source) (d : Option (List ℕ)) → MakesForward refs s d c → Contains sources s)
      → AllByRecursion NoneFrom sources → FetchesNone g h k
  named_none sources has none s refs d valid sought =
      of_element NoneFrom sources s none (has refs s d (made refs s d sought)) refs d valid sought

  pub negative_none : c.mode ≡ Negative → FetchesNone g h k
  negative_none negative s refs d valid sought =
      subst IsPositive negative (makes_positive refs s d c (made refs s d sought))

  -- ---- one whose sides both lists have

  module _ (known : HasSides (map reading_of ds) c ⊎ HasSidesBefore (map reading_of cs) k c) where
    pub known_none : ((refs : List Ref) (n : List ℕ) (d : Option (List ℕ)) → AreValid refs
        → FetchesAlone g h refs k (name n) d → ¬ (IsSourceExcluded h (name n))) → FetchesNone g h k
    known_none included (name n) refs d valid sought =
        sought.other (known_fetched g h (map reading_of cs) (map reading_of ds) all also k c at known refs (name n) d
        sought.one (included refs n d valid sought))
    known_none included (id bytes) refs d valid sought =
        sought.other (known_fetched g h (map reading_of cs) (map reading_of ds) all also k c at known refs (id bytes) d
        sought.one (λ none. none))

    pub nothing_new : fresh ≡ [] → FetchesNone g h k
    nothing_new none = known_none (λ refs n d valid sought by.
        let one = newly_excluded g h (map reading_of cs) (map reading_of ds) all also fresh new n by
        sought.one.fetches.included in
        let (i, below, is) = subst (λ l. Contains l one.exclusion) none one.is_new in
        absurd (omega (arith, below)))

  -- ---- one of patterns

  module _ (positive : IsPositive c.mode) (p t : List ℕ) (source : HasSourcePattern c p t)
      (none : AllByRecursion (NoneByExclusion g h k (words_with z) p t) fresh) where
    -- the other list excludes no source of such a pair
    shared_none : (refs : List Ref) (n : List ℕ) (d : Option (List ℕ)) → AreValid refs
        → FetchesAlone g h refs k (name n) d → (i : ℕ) (r q : Reading) → slice_get h i ≡ Some r
        → IsExcludedBy n r → q.source ≡ r.source → NoneByExclusion g h k (words_with z) p t q → ⊥
    shared_none refs n d valid sought i r q here one same (sources, inl (plain, are), absent) =
        elim one.excludes [
          | the_name lacks is ↦
              let named : sources ≡ name one.text ∷ [] = are ∙ ap (λ x. map name (side_names x)) (same ∙ one.source) in
              subst NoneFrom (ap name (sym is)) (subst (AllByRecursion NoneFrom) named absent).0 refs d valid sought
          | by_pattern a b w split suits ↦ absurd (plain one.text a b (same ∙ one.source) split)
        ]
    shared_none refs n d valid sought i r q here one same (sources, inr (a, b, side, decide), absent) =
        let text : side.text ≡ one.text = same_Some _ _ (sym side.has ∙ same ∙ one.source) in
        let split : IsSplit a b one.text = subst (IsSplit a b) text side.split in
        elim one.excludes [
          | the_name lacks is ↦ absurd (lacks_no_pattern one.text a b lacks split)
          | by_pattern e f w other suits ↦
              let (front, back) = split_once one.text a b e f split other in
              let fits : n ≡ a ++ (w ++ b) = rw (front, back) suits in
              let (v, own, far, there) = spec_made c p t
              (spec z g h free clear cs ds all also k c at positive p t source) refs n d
              (made refs (name n) d sought) in
              elim decide [
                | inl apart ↦ absurd (apart n v w own fits)
                | inr both ↦
                    shared_decided z g h free clear cs ds all also k c at positive p t source refs n d sought i r here
                    one.negative one.text a b one.source split w fits both.prefix both.suffix both.most
                    (longer_flipped p a both.prefix both.texts.prefix_is)
                    (ending_flipped t b both.suffix both.texts.suffix_is)
                    (λ j in_prefix in_suffix x y. both.texts.most_is j in_prefix in_suffix y x) valid
                    (λ m deciding. of_element NoneFrom sources (name m) absent (both.has m deciding))
              ]
        ]

    pub excluded_none : (refs : List Ref) (n : List ℕ) (d : Option (List ℕ)) → AreValid refs
        → FetchesAlone g h refs k (name n) d → ¬ (IsSourceExcluded h (name n))
    excluded_none refs n d valid sought by =
        let one = newly_excluded g h (map reading_of cs) (map reading_of ds) all also fresh new n by
        sought.one.fetches.included in
        shared_none refs n d valid sought one.index one.reading one.exclusion one.here one.excludes one.same
        (of_element (NoneByExclusion g h k (words_with z) p t) fresh one.exclusion none one.is_new)

    -- then no pair at all is fetched by it alone, over any refs with valid names
    pub pattern_none : AllByRecursion NoneFrom (with_words p t (words_with z)) → FetchesNone g h k
    pattern_none own (name n) refs d valid sought =
        own_decided z g h free clear cs ds all also k c at positive p t source refs n d sought valid
        (excluded_none refs n d valid sought)
        (λ m deciding. elim deciding [
          | inl (w, there, is) ↦ subst (λ x. NoneFrom (name x)) (sym is)
              (of_element NoneFrom (with_words p t (words_with z)) (name (p ++ (w ++ t))) own
              (mapped_there (λ (v : List ℕ). name (p ++ (v ++ t))) (words_with z) w there))
          | inr (l, most, overlap, is) ↦ absurd (omega (arith, most, overlap.some))
        ])
    pattern_none own (id bytes) refs d valid sought =
        let makes = made refs (id bytes) d sought in
        let near : makes.text ≡ source.text = same_Some _ _ (sym makes.side ∙ source.has) in
        lacks_no_pattern source.text p t (subst (Lacks star) near makes.object.0) source.split
