-- What a spec stores, and what it maps.
use Rattle.gix_refspec_remote.proofs.Common.{◌≡◌, ◌++◌, ℕ, List, Option, None, Some, inl, inr, ap, sym, subst, ◌∙◌}
use Rattle.gix_refspec_remote.proofs.Common.{refl, star, same_Some, lacks_no_pattern, IsSplit, IsText, Reading, Stores}
use Rattle.gix_refspec_remote.proofs.Common.{StoresSome, slice_get, [], ◌∷◌, ◌<◌, HasAt, IsFirstAt, IsUpstream, tracked}
use Rattle.gix_refspec_remote.proofs.lemmas.WrittenLemmas.{name_text, pattern_text}
use Rattle.gix_refspec_match.proofs.lemmas.hits.HitLemmas.{forward_once}
use Rattle.gix_refspec_match.proofs.lemmas.hits.SingleLemmas.{mapped_ends, maps_name}
use Rattle.gix_refspec_match.specs.Matching.Hits.{AreForwardEnds}
use Rattle.gix_refspec_match.specs.Matching.Mappings.{Mapped}
use Rattle.gix_refspec_match.specs.Matching.Single.{MapsName}
use Rattle.gix_refspec_match.specs.Private.Needles.{MatchesNamed}
use Rattle.gix_refspec_remote.specs.Laws.{AreFullNames, ArePatterns, HasFullSides, HaveFullSides, MapsTo, MapsToSome}
use Rattle.gix_refspec_remote.specs.Laws.{StoredAsMapped, TrackedAsMapped, mapping_to}
use Rattle.gix_refspec_text.specs.Specs.Grammar.{IsPositive}
use Rattle.gix_refspec_text.specs.Matching.Match.{Ref}
use Rattle.gix_refspec_text.specs.Matching.Side.{HasKind, full_name, object, pattern}

full_no_object : (x id : List ℕ) → HasKind x (full_name x) → ¬ (HasKind x (object id))
full_no_object x id full is = is.1 full.2

pattern_no_object : (x before after id : List ℕ) → IsSplit before after x → ¬ (HasKind x (object id))
pattern_no_object x before after id split is = lacks_no_pattern x before after is.0 split

module _ (n : List ℕ) (r : Reading) (s t : List ℕ) (from : r.source ≡ Some s) (to : r.destination ≡ Some t) where
  are_ends : IsPositive r.mode → ((id : List ℕ) → ¬ (HasKind s (object id)))
      → AreForwardEnds r (record { near = s; far = Some t })
  are_ends positive other = record { positive = positive; near = from; far = to; no_object = other }

  -- what it stores by two full names, it maps
  full_mapped : AreFullNames s t → (d : List ℕ) → Stores n d r → MapsName n r (mapping_to n d)
  full_mapped (full, whole) d stores =
      let source = same_Some _ _ (sym stores.fetches.is ∙ from) in
      let destination = same_Some _ _ (sym stores.is ∙ to) in
      let read = name_text s n stores.fetches.word full.1
      (subst (λ x. IsText x n stores.fetches.word) source stores.fetches.reads) in
      let made = name_text t d stores.fetches.word whole.1
      (subst (λ x. IsText x d stores.fetches.word) destination stores.makes) in
      maps_name n r (record { near = s; far = Some t }) (full_name s) None (Some d)
      (are_ends stores.fetches.positive (λ id. full_no_object s id full)) full (refl, read.1)
      (full_name t, whole, ap Some made.1)

  -- and what it stores by two patterns
  patterns_mapped : ArePatterns s t → (d : List ℕ) → Stores n d r → MapsName n r (mapping_to n d)
  patterns_mapped both d stores =
      let source = same_Some _ _ (sym stores.fetches.is ∙ from) in
      let destination = same_Some _ _ (sym stores.is ∙ to) in
      let (w, is, fits) = pattern_text s both.before both.after n stores.fetches.word both.source
      (subst (λ x. IsText x n stores.fetches.word) source stores.fetches.reads) in
      let (v, same, made) = pattern_text t both.front both.back d stores.fetches.word both.destination
      (subst (λ x. IsText x d stores.fetches.word) destination stores.makes) in
      let word : v ≡ w = same_Some _ _ (sym same ∙ is) in
      maps_name n r (record { near = s; far = Some t }) (pattern both.before both.after) (Some w) (Some d)
      (are_ends stores.fetches.positive (λ id. pattern_no_object s both.before both.after id both.source)) both.source
      fits (
        pattern both.front both.back,
        both.destination,
        ap Some (made ∙ ap (λ y. both.front ++ (y ++ both.back)) word),
      )

  -- what it maps by two full names, it stores
  full_stored : AreFullNames s t → (m : Mapped) → MapsName n r m → StoresSome n r
  full_stored (full, whole) m maps =
      let (ends, has, matched) = mapped_ends n r m (full_name s) maps in
      let near = same_Some _ _ (sym from ∙ has.near) in
      let (word, is) = matched (subst (λ x. HasKind x (full_name s)) near full) in (
        t,
        record {
          fetches = record { positive = has.positive; source = s; is = from; word = None; reads = (full.1, is.1) };
          destination = t;
          is = to;
          makes = (whole.1, refl);
        },
      )

  pattern_word : (b a : List ℕ) (word : Option (List ℕ)) → MatchesNamed (pattern b a) n word
      → (w : List ℕ) × (n ≡ b ++ (w ++ a))
  pattern_word b a None is = absurd is
  pattern_word b a (Some w) is = (w, is)

  -- and what it maps by two patterns
  patterns_stored : ArePatterns s t → (m : Mapped) → MapsName n r m → StoresSome n r
  patterns_stored both m maps =
      let (ends, has, matched) = mapped_ends n r m (pattern both.before both.after) maps in
      let near = same_Some _ _ (sym from ∙ has.near) in
      let (word, is) = matched (subst (λ x. HasKind x (pattern both.before both.after)) near both.source) in
      let (w, fits) = pattern_word both.before both.after word is in (
        both.front ++ (w ++ both.back),
        record {
          fetches = record {
            positive = has.positive;
            source = s;
            is = from;
            word = Some w;
            reads = (both.before, both.after, both.source, fits);
          };
          destination = t;
          is = to;
          makes = (both.front, both.back, both.destination, refl);
        },
      )

-- a spec with two full names or two patterns stores what it maps
pub stored_mapped : (n : List ℕ) (r : Reading) → StoredAsMapped n r
stored_mapped n r sides = elim sides.alike [
  | inl full ↦ (
    full_mapped n r sides.source sides.destination sides.from sides.to full,
    full_stored n r sides.source sides.destination sides.from sides.to full,
  )
  | inr both ↦ (
    patterns_mapped n r sides.source sides.destination sides.from sides.to both,
    patterns_stored n r sides.source sides.destination sides.from sides.to both,
  )
]

abbrev destination_of : List Mapped → Option (List ℕ)
destination_of [] = None
destination_of (m ∷ ms) = m.destination

-- a spec alone maps a name to one ref
maps_once : (n d e : List ℕ) (r : Reading) → MapsTo n d r → MapsTo n e r → d ≡ e
maps_once n d e r a b =
    let ref : Ref = record { name = n; target = []; object = None } in
    same_Some d e (ap destination_of
    (forward_once (r ∷ []) (ref ∷ []) (mapping_to n d ∷ []) (mapping_to n e ∷ []) (a.each ref refl) (b.each ref refl)))

module _ (n : List ℕ) (r : Reading) (sides : IsPositive r.mode → HasFullSides r) where
  stored_to : (d : List ℕ) → Stores n d r → MapsTo n d r
  stored_to d stores = (stored_mapped n r (sides stores.fetches.positive)).0 d stores

  mapped_to : (d : List ℕ) → MapsTo n d r → Stores n d r
  mapped_to d maps =
      let (ends, has, matched) = mapped_ends n r (mapping_to n d) (full_name []) maps in
      let (e, stores) = (stored_mapped n r (sides has.positive)).1 (mapping_to n d) maps in
      subst (λ x. Stores n x r) (maps_once n e d r (stored_to e stores) maps) stores

module _ (P Q : Reading → Type 0) (g : List Reading) where
  at_likewise : ((k : ℕ) (r : Reading) → slice_get g k ≡ Some r → P r → Q r) → (k : ℕ) → HasAt g k P → HasAt g k Q
  at_likewise each k has = (has.0, has.1, each k has.0 has.1 has.2)

-- the first spec that satisfies P is the first one that satisfies Q
first_likewise : (P Q : Reading → Type 0) (g : List Reading)
    → ((k : ℕ) (r : Reading) → slice_get g k ≡ Some r → P r → Q r)
    → ((k : ℕ) (r : Reading) → slice_get g k ≡ Some r → Q r → P r) → (k : ℕ) → IsFirstAt g k P → IsFirstAt g k Q
first_likewise P Q g there back k is =
    (at_likewise P Q g there k is.0, λ j below has. is.1 j below (at_likewise Q P g back j has))

-- the upstream is what the first spec that maps the merged ref maps it to
pub tracked_mapped : (n : List ℕ) (g : List Reading) → TrackedAsMapped n g
tracked_mapped n g full free d k =
    let there : (x : List ℕ) (j : ℕ) (r : Reading) → slice_get g j ≡ Some r → Stores n x r → MapsTo n x r =
    λ x j r at. stored_to n r (full j r at) x in
    let back : (x : List ℕ) (j : ℕ) (r : Reading) → slice_get g j ≡ Some r → MapsTo n x r → Stores n x r =
    λ x j r at. mapped_to n r (full j r at) x in (
      λ is. (
        first_likewise (StoresSome n) (MapsToSome n) g (λ j r at some. (some.0, there some.0 j r at some.1))
            (λ j r at some. (some.0, back some.0 j r at some.1)) k is.1,
        at_likewise (Stores n d) (MapsTo n d) g (there d) k is.2,
      ),
      λ first. (
        free,
        first_likewise (MapsToSome n) (StoresSome n) g (λ j r at some. (some.0, back some.0 j r at some.1))
            (λ j r at some. (some.0, there some.0 j r at some.1)) k first.0,
        at_likewise (MapsTo n d) (Stores n d) g (back d) k first.1,
      ),
    )
