-- From matchers and hits to the mappings that are kept.
use Rattle.gix_refspec_match.proofs.Common.{List, [], ◌∷◌, None, Some, refl, ◌≡◌, ℕ, ◌++◌, Option, ◌∙◌, arith, inl, inr}
use Rattle.gix_refspec_match.proofs.Common.{subst, ap, append-nil, length, map, drop, ◌+◌, get_or, option_to_list}
use Rattle.gix_refspec_match.proofs.Common.{slice_get, IsSome, map-append, All-from_recursion, slice_get-get_or}
use Rattle.gix_refspec_match.proofs.Common.{get_or_from_slice_get, slice_get_within, AllByRecursion, all_join}
use Rattle.gix_refspec_match.proofs.Common.{kind_of_side, DeclaredKind as SideKind, Ref, Reading, IsMadeFrom}
use Rattle.gix_refspec_match.proofs.Common.{IsJoinedFrom, place_among, Hit, AreHits, IsIdMapping, Mapped, IsKept}
use Rattle.gix_refspec_match.proofs.Common.{AddsMapped, Thins, IsMappedHit, hit_of, object_mapping, AreFound, turned}
use Rattle.gix_refspec_match.proofs.Common.{hit_at, AreHitsAmong, AreSound, IsSound, AreExclusionsOf, HasEnds, TakesIn}
use Rattle.gix_refspec_match.proofs.Common.{AreMatcherOf, AreMatchersOf, AreObjectOf, HaveOthers, HasSideKind}
use Rattle.gix_refspec_match.proofs.Common.{IsMatched, Exclusions, DeclaredHit, Candidates, All, Matcher, Matchers}
use Rattle.gix_refspec_match.proofs.Common.{ObjectSpec, rules, sym, ◌<◌, take, append_assoc, made_next}
use Rattle.gix_refspec_match.proofs.Common.{take-append-drop, length-map, length-take-le, take_more, get_or-map}
use Rattle.gix_refspec_match.proofs.Common.{all_right, all_left, MakesOf, mapping_of, hit_by, hit_of_both, ExcludeStart}
use Rattle.gix_refspec_match.proofs.Common.{ref_of, mapped_of, Item, Mapping}
use Rattle.gix_refspec_match.proofs.lemmas.hits.HitLemmas.{blank, of_hits, far_filled}
use Rattle.gix_refspec_match.proofs.lemmas.hits.GroupLemmas.{FindEnough, most_from}
use Rattle.gix_refspec_match.proofs.lemmas.keep.KeptLemmas.{AreIncluded, kept_included, starts_agree, kept_thinned}
use Rattle.gix_refspec_match.proofs.lemmas.keep.KeptLemmas.{thins_all, thins_behind, thins_both}
use Rattle.gix_refspec_match.proofs.lemmas.keep.PartLemmas.{all_enough, once_enough, part_read}
use Rattle.gix_refspec_match.proofs.lemmas.lists.ListsLemmas.{joined_all, each_made}

hit_there : (ms : List Matcher) (xs : List Item) (h : DeclaredHit) (dm : Matcher) (dx : Item)
    → IsSound ms (map ref_of xs) h
    → hit_of ms (map ref_of xs) h ≡ hit_by (get_or ms h.matcher dm) h.item (ref_of (get_or xs h.item dx))
hit_there ms xs h dm dx at =
    let inside : h.item < length xs = rw length-map at (slice_get_within (map ref_of xs) h.item at.ref at.is_ref) in
    let same = sym (get_or_from_slice_get (map ref_of xs) h.item at.ref (ref_of dx) at.is_ref)
    ∙ get_or-map ref_of xs h.item dx (ref_of dx) inside in
    (λ j. hit_of_both (at.is_matcher j) (at.is_ref j) h.item)
    ∙ (λ j. hit_by (sym (get_or_from_slice_get ms h.matcher at.matcher dm at.is_matcher) j) h.item (same j))

-- one more hit, whose far end is known
module _ (which : Candidates) (es : Exclusions) (ms : List Matcher) (xs : List Item) (hits : List DeclaredHit)
    (i : ℕ) (d : DeclaredHit) (dm : Matcher) (dx : Item) (old : List Mapped) (mid : List Mapping)
    (far : Option (List ℕ)) (sound : AreSound ms (map ref_of xs) hits) (below : i < length hits)
    (so_far : AddsMapped which es ms (map ref_of xs) (take i hits) old (map mapped_of mid))
    (is_far : far ≡ (hit_by (get_or ms (get_or hits i d).matcher dm) 0
    (ref_of (get_or xs (get_or hits i d).item dx))).far) where
  abbrev hit : Hit
  hit = record (hit_by (get_or ms (get_or hits i d).matcher dm) (get_or hits i d).item
      (ref_of (get_or xs (get_or hits i d).item dx))) { far = far }

  abbrev Makes : Option Mapped → Hit → Type 0
  Makes made x = MakesOf (λ k h m. (m ≡ mapping_of which x) × ¬ (ExcludeStart es m.source)) i (get_or hits i d) made

  mapped_next : (new : List Mapped) (made : Option Mapped) → Makes made hit
      → new ≡ map mapped_of mid ++ option_to_list made → AddsMapped which es ms (map ref_of xs) (take (i + 1) hits) old
      new
  mapped_next new made makes more =
      let same = hit_there ms xs (get_or hits i d) dm dx
      (All-from_recursion (IsSound ms (map ref_of xs)) hits sound i d below)
      ∙ sym (λ j. record hit { far = is_far j }) in
      let next = made_next (IsMappedHit which es ms (map ref_of xs)) i (take i hits) (get_or hits i d) so_far.made made
      (length-take-le i hits (omega (arith, below))) so_far.are (subst (Makes made) (sym same) makes) in
      record {
        made = so_far.made ++ option_to_list made;
        are = rw (take_more hits i d below) next;
        all =
            rw (so_far.all, append_assoc) at more;
      }

  pub excluded_next : ExcludeStart es (mapping_of which hit).source → AddsMapped which es ms (map ref_of xs)
      (take (i + 1) hits) old (map mapped_of mid)
  excluded_next taken = mapped_next (map mapped_of mid) None (λ m is. is.1 (rw is.0 taken)) (sym (append-nil _))

  pub included_next : (new : List Mapping) (m : Mapping) → new ≡ mid ++ m ∷ [] → mapped_of m ≡ mapping_of which hit
      → ¬ (ExcludeStart es (mapped_of m).source) → AddsMapped which es ms (map ref_of xs) (take (i + 1) hits) old
      (map mapped_of new)
  included_next new m more is free = mapped_next (map mapped_of new) (Some (mapped_of m)) (is, free)
      (ap (map mapped_of) more ∙ map-append mapped_of mid (m ∷ []))

-- what is made of the elements of a list and then of those of another, whatever their indexes
made_both : {X Y : Type 0} (P : X → Y → Type 0) (j k : ℕ) (xs zs : List X) (ys ws : List Y)
    → IsMadeFrom (λ n x y. P x y) j xs ys
    → IsMadeFrom (λ n x y. P x y) k zs ws → IsMadeFrom (λ n x y. P x y) j (xs ++ zs) (ys ++ ws)
made_both P j k [] [] ys ws none end = rw (none, end) refl
made_both P j k [] (z ∷ zs) ys ws none (made, rest, of, more, is) =
    (made, rest, of, made_both P (j + 1) (k + 1) [] zs [] rest refl more, rw (none, is) refl)
made_both P j k (x ∷ xs) zs ys ws (made, rest, of, more, is) behind =
    (made, rest ++ ws, of, made_both P (j + 1) k xs zs rest ws more behind, rw (is, append_assoc) refl)

module _ (which : Candidates) (es : Exclusions) (ms : List Matcher) (items : List Ref) (hits : List DeclaredHit)
    (k : ℕ) where
  pub adds_both : (old mid new : List Mapped) → AddsMapped which es ms items (take k hits) old mid
      → AddsMapped which es ms items (drop k hits) mid new → AddsMapped which es ms items hits old new
  adds_both old mid new first later = record {
    made = first.made ++ later.made;
    are = rw take-append-drop at (made_both (IsMappedHit which es ms items 0) 0 0 (take k hits) (drop k hits) first.made
        later.made first.are later.are);
    all = rw (later.all, first.all, append_assoc) refl;
  }

pub both_sound : (ms : List Matcher) (items : List Ref) (hits first later : List DeclaredHit) (k : ℕ)
    → first ≡ take k hits → later ≡ drop k hits
    → AreSound ms items hits → AreSound ms items first × AreSound ms items later
both_sound ms items hits first later k is_first is_later sound =
    let both : AreSound ms items (take k hits ++ drop k hits) = rw take-append-drop sound in (
      rw is_first (all_left _ (take k hits) (drop k hits) both),
      rw is_later (all_right _ (take k hits) (drop k hits) both),
    )

finds_enough : (g : List Reading) (ms : Matchers) (items : List Ref) (hits : List DeclaredHit)
    → AreHitsAmong ms items hits
    → FindEnough g ms.candidates items 0 ms.list.items (of_hits ms.candidates (map (hit_of ms.list.items items) hits))
finds_enough g ms items hits (inl are) =
    let makes : List DeclaredHit → List Mapped = λ some. of_hits ms.candidates
    (map (hit_of ms.list.items items) some) in
    joined_all _ (λ k xs some. FindEnough g ms.candidates items k xs (makes some)) ms.list.items (λ k. refl)
    (λ k m xs made rest at found more. (
      makes made,
      makes rest,
      all_enough g ms.candidates ms.list.items items k m made
          at found,
      more,
      simp map-append,
    )) 0 ms.list.items hits refl are
finds_enough g ms items hits (inr once) =
    let list = ms.list.items in
    let makes : List DeclaredHit → List Mapped = λ some. of_hits ms.candidates
    (map (hit_of list items) (map (turned once.indexes) some)) in
    rw once.all (joined_all _ (λ k xs some. FindEnough g ms.candidates items k xs (makes some)) list (λ k. refl)
    (λ k m xs made rest at found more.
    let plain = rw (get_or_from_slice_get list k m m at) at
    (All-from_recursion _ list once.plain k m (slice_get_within list k m at)) in (
      makes made,
      makes rest,
      once_enough g ms.candidates list items once.part once.indexes k m made at once.is plain
          found,
      more,
      simp map-append,
    )) 0 list once.found refl once.are)

mapped_thins : (g : List Reading) (which : Candidates) (es : Exclusions) (ms : List Matcher) (items : List Ref) (k : ℕ)
    (hits : List DeclaredHit) (made before : List Mapped) → AreExclusionsOf g es
    → IsMadeFrom (IsMappedHit which es ms items) k hits made
    → Thins g before (of_hits which (map (hit_of ms items) hits)) made
mapped_thins g which es ms items k [] made before are none = none
mapped_thins g which es ms items k (h ∷ hits) made before are (None, rest, none, more, is) =
    inr (
      inr (λ free. none _ (refl, λ taken. free ((starts_agree g es _ are).0 taken))),
      rw is (mapped_thins g which es ms items (k + 1) hits rest _ are more),
    )
mapped_thins g which es ms items k (h ∷ hits) made before are (Some y, rest, of, more, is) =
    inl (rest, rw of.0 at is, mapped_thins g which es ms items (k + 1) hits rest _ are more)

pub objects_made : (k : ℕ) (g : List Reading) (os : List ObjectSpec) → IsJoinedFrom AreObjectOf k g os
    → IsMadeFrom IsIdMapping k g (map object_mapping os)
objects_made k [] os none = ap (map object_mapping) none
objects_made k (r ∷ g) os (made, rest, inl (o, is, one), more, all) =
    let far = far_filled r.destination o.destination None (object_mapping o).destination is.destination refl in (
      Some (object_mapping o),
      map object_mapping rest,
      (search (rules, far, is.asks.positive, is.asks.side, is.asks.kind, is.spec)),
      objects_made (k + 1) g rest more,
      rw (all, one) refl,
    )
objects_made k (r ∷ g) os (made, rest, inr (none, empty), more, all) = (
  None,
  map object_mapping rest,
  (λ m is. none is.bytes (search (rules, is.side, is.object))),
  objects_made (k + 1) g rest more,
  rw (all, empty) refl,
)

ids_included : (g : List Reading) (os : List ObjectSpec) (made : List Mapped) → AreIncluded g made
    → AreIncluded g (map object_mapping os ++ made)
ids_included g [] made free = free
ids_included g (o ∷ os) made free = ((λ taken. taken), ids_included g os made free)

thins_after : (g : List Reading) (ids l some : List Mapped) → Thins g [] l some → Thins g [] (ids ++ l) (ids ++ some)
thins_after g ids l some thins = thins_both g [] ids ids l some (thins_all g [] ids)
    (rw append-nil at (thins_behind g ids [] l some thins))

-- of the mappings of ids, and of those of hits behind them, the ones that are kept are those of the group
pub kept_hits : (g : List Reading) (which : Candidates) (items : List Ref) (ms : Matchers) (os : List ObjectSpec)
    (hits : List DeclaredHit)
    (es : Exclusions) (list kept : List Mapped) → AreMatchersOf which g ms → AreHitsAmong ms items hits
    → AreExclusionsOf g es
    → AddsMapped which es ms.list.items items hits (map object_mapping os) list → IsKept [] list kept
    → (whole : List Hit) × AreHits (HasEnds which) (TakesIn which items) g items whole
    × IsKept g (map object_mapping os ++ of_hits which whole) kept
kept_hits g which items ms os hits es list kept matchers among are adds is =
    let ids = map object_mapping os in
    let views = map (hit_of ms.list.items items) hits in
    let enough = subst (λ (c : Candidates). FindEnough g c items 0 ms.list.items (of_hits c views)) matchers.candidates
    (finds_enough g ms items hits among) in
    let (whole, whole_are, most) = most_from g which items matchers.flags [] g 0 ms.list.items [] (of_hits which views)
    matchers.equal matchers.made enough ([], refl, refl) in
    let included = each_made (IsMappedHit which es ms.list.items items) _ hits
    (λ k h m at of taken. of.1 ((starts_agree g es m.source are).1 taken)) 0 hits adds.made refl adds.are in
    let of_made = kept_included g _ kept (ids_included g os adds.made included) (rw adds.all at is) in
    let of_some = kept_thinned g (ids ++ of_hits which views) _ kept
    (thins_after g ids _ _ (mapped_thins g which es ms.list.items items 0 hits adds.made [] are adds.are))
    of_made in
    (whole, whole_are, kept_thinned g _ _ kept (thins_after g ids _ _ most) of_some)

sound_joined : (ms : List Matcher) (items : List Ref) (view : DeclaredHit → DeclaredHit) (which : Candidates)
    (part : List Ref)
    (found : List DeclaredHit) → ((k j : ℕ) (m : Matcher) (r : Ref) → slice_get ms k ≡ Some m
    → slice_get part j ≡ Some r → IsMatched (kind_of_side m.needle) r → IsSound ms items (view (hit_at k j)))
    → IsJoinedFrom (AreFound which part) 0 ms found → AllByRecursion (λ h. IsSound ms items (view h)) found
sound_joined ms items view which part found each are =
    joined_all (AreFound which part) (λ _ _ hits. AllByRecursion (λ h. IsSound ms items (view h)) hits) ms (λ k. tt)
    (λ k m xs made rest is_m of more. all_join _ made rest
    (each_made _ _ part (λ j r h is_r is. rw is.1 (each k j m r is_m is_r is.0.matched)) 0 part made refl of) more) 0 ms
    found refl are

pub sound_among : (ms : Matchers) (items : List Ref) (hits : List DeclaredHit) → AreHitsAmong ms items hits
    → AreSound ms.list.items items hits
sound_among ms items hits (inl are) =
    sound_joined ms.list.items items (λ h. h) ms.candidates items hits
    (λ k j m r is_m is_r matched. record {
      matcher = m;
      is_matcher = is_m;
      ref = r;
      is_ref = is_r;
      matched =
          matched;
    }) are
sound_among ms items hits (inr once) =
    rw once.all (mapped once.found
    (sound_joined ms.list.items items (turned once.indexes) ms.candidates once.part once.found
    (λ k j m r is_m is_r matched. record {
      matcher = m;
      is_matcher = is_m;
      ref = r;
      is_ref = at_index j r is_r;
      matched = matched;
    }) once.are))
  where
    mapped : (found : List DeclaredHit) → AllByRecursion (λ h. IsSound ms.list.items items (turned once.indexes h))
        found → AreSound ms.list.items items (map (turned once.indexes) found)
    mapped [] all = tt
    mapped (h ∷ found) all = (all.0, mapped found all.1)

    at_index : (j : ℕ) (r : Ref) → slice_get once.part j ≡ Some r → slice_get items (place_among once.indexes j) ≡ Some
        r
    at_index j r at =
        let read = part_read items [] items once.part once.indexes j j refl once.is
        (slice_get_within once.part j r at) in
        slice_get-get_or items (get_or once.indexes j j) blank read.0
        ∙ ap Some (read.1 ∙ get_or_from_slice_get once.part j r blank at)

pub others_there : (g : List Reading) (ms : Matchers) → AreMatchersOf All g ms → HaveOthers ms.list.items
others_there g ms are =
    joined_all (AreMatcherOf All are.flags) (λ _ _ list. HaveOthers list) g (λ k. tt)
    (λ k r xs made rest at of more. elim of [
      | inl (m, is, one) ↦ rw one (other is.ends.far m.other is.has.both is.kinds.far, more)
      | inr (none, empty) ↦ rw empty more
    ]) 0 g ms.list.items refl are.made
  where
    other : (far : Option (List ℕ)) (side : Option SideKind) → IsSome far → HasSideKind far side → IsSome side
    other far side some has = grind arith
