-- The hits of a group from those of its matchers. Specs that have the sides of an earlier one have none: their hits
-- make
-- no pair that is new.
use Rattle.gix_refspec_match.proofs.Common.{List, [], ◌∷◌, refl, ◌≡◌, ℕ, ◌++◌, arith, inl, inr, ap, append-nil, ◌<◌}
use Rattle.gix_refspec_match.proofs.Common.{length, map, ◌+◌, get_or, append_assoc, zero, suc, Bool, add-zero}
use Rattle.gix_refspec_match.proofs.Common.{length-append, rules, get_or-append_seam, get_or_append_left, map-append}
use Rattle.gix_refspec_match.proofs.Common.{Ref, Reading, IsMadeFrom, IsJoinedFrom, Ends, Hit, IsHit, AreSpecHits}
use Rattle.gix_refspec_match.proofs.Common.{AreHits, Mapped, HasPair, HaveSameSides, FlagsEqual, mapping_of, Thins}
use Rattle.gix_refspec_match.proofs.Common.{HaveKinds, HasEnds, TakesIn, AreMatcherOf, Candidates, Matcher}
use Rattle.gix_refspec_match.proofs.lemmas.hits.HitLemmas.{made_each, of_hits}
use Rattle.gix_refspec_match.proofs.lemmas.lists.JoinLemmas.{joined_next}
use Rattle.gix_refspec_match.proofs.lemmas.keep.KeptLemmas.{HasPair-left, pair_right, thins_both}

-- the same hit, by the spec at place k
abbrev at_spec : ℕ → Hit → Hit
at_spec k h = record { spec = k; item = h.item; near = h.near; far = h.far }

abbrev Holds : List Mapped → List Mapped → Type 0
Holds all some = (m : Mapped) → HasPair some m → HasPair all m

module _ (which : Candidates) (items : List Ref) where
  abbrev SpecHits : ℕ → Reading → List Hit → Type 0
  SpecHits = AreSpecHits (HasEnds which) (TakesIn which items) items

  -- the hits of a spec are those of another one with the same sides, at its place
  spec_at : (b k : ℕ) (r s : Reading) (hits : List Hit) → HaveSameSides r s → SpecHits b r hits
      → SpecHits k s (map (at_spec k) hits)
  spec_at b k r s hits same (inl (ends, has, are)) =
      let moved = made_each (at_spec k) (IsHit (TakesIn which items) ends b) (IsHit (TakesIn which items) ends k) items
      hits
      (λ i d below. ((λ h is. search rules), λ h is. (at_spec b h, search rules))) are in
      inl (ends, grind (arith, same.positive_too, same.source, same.destination, has), moved)
  spec_at b k r s hits same (inr (none, is)) =
      inr (
        (λ ends has. none ends (grind (arith, same.positive, same.source, same.destination, has))),
        ap (map (at_spec k)) is,
      )

  -- among the hits of a group are those of the spec at a place
  hits_of_spec : (g : List Reading) (k b : ℕ) (d : Reading) (hits : List Hit) → b < length g
      → IsJoinedFrom SpecHits k g hits
      → (here : List Hit) × SpecHits (k + b) (get_or g b d) here × Holds (of_hits which hits) (of_hits which here)
  hits_of_spec [] k b d hits below are = absurd (omega arith)
  hits_of_spec (r ∷ g) k zero d hits below (first, rest, of, more, is) = (
    first,
    rw add-zero of,
    λ m has. rw (is, map-append)
        (HasPair-left (of_hits which first) (of_hits which rest) m has),
  )
  hits_of_spec (r ∷ g) k (suc b) d hits below (first, rest, of, more, is) =
      let (here, are, holds) = hits_of_spec g (k + 1) b d rest (omega arith) more in
      let place : (k + 1) + b ≡ k + suc b = omega arith in (
        here,
        rw place at are,
        λ m has. rw (is, map-append)
            (pair_right (of_hits which first) (of_hits which rest) m (holds m has)),
      )

-- where the pairs of some hits are there already, those of the same hits by another spec are left out
thins_again : (g : List Reading) (which : Candidates) (k : ℕ) (before : List Mapped) (hits : List Hit)
    → Holds before (of_hits which hits) → Thins g before (of_hits which (map (at_spec k) hits)) []
thins_again g which k before [] holds = refl
thins_again g which k before (h ∷ hits) holds =
    let m = mapping_of which (at_spec k h) in
    inr (
      inl (holds m (inl (grind arith))),
      thins_again g which k (before ++ m ∷ []) hits
          (λ x has. HasPair-left before (m ∷ []) x (holds x (inr has))),
    )

module _ (g : List Reading) (which : Candidates) (items : List Ref) where
  -- where a matcher finds enough: the hits of its spec make these mappings, but for some that may be left out, whatever
  -- was
  -- mapped before
  abbrev pub FindsEnough : Matcher → List Mapped → Type 0
  FindsEnough m some = (ends : Ends) → HaveKinds ends m → (hits : List Hit)
      × IsMadeFrom (IsHit (TakesIn which items) ends m.spec_index) 0 items hits
      × ((before : List Mapped) → Thins g before (of_hits which hits) some)

  -- some of the mappings that the hits of the group make: those that are left out may be
  abbrev pub AreMostOf : List Reading → List Mapped → Type 0
  AreMostOf front some = (hits : List Hit) × AreHits (HasEnds which) (TakesIn which items) front items hits
      × Thins g [] (of_hits which hits) some

  -- the mapping lists that the matchers' hits make, one for each matcher
  abbrev pub FindEnough : ℕ → List Matcher → List Mapped → Type 0
  FindEnough n ms some = IsJoinedFrom (λ (k : ℕ) (m : Matcher) (made : List Mapped). FindsEnough m made) n ms some

  most_next : (front : List Reading) (r : Reading) (some more : List Mapped) (hits : List Hit)
      → SpecHits which items (length front) r hits
      → (so_far : AreMostOf front some) → Thins g (of_hits which so_far.0) (of_hits which hits) more
      → AreMostOf (front ++ r ∷ []) (some ++ more)
  most_next front r some more hits are so_far thins =
      let joined = joined_next (SpecHits which items) (length front) front r so_far.0 hits refl so_far.1 are in (
        so_far.0 ++ hits,
        joined,
        rw map-append (thins_both g [] (of_hits which so_far.0) some (of_hits which hits) more so_far.2 thins),
      )

  most_of : (flags : List Bool) (front rest : List Reading) (r : Reading) (n : ℕ) (made others : List Matcher)
      (some more : List Mapped) → FlagsEqual (front ++ (r ∷ rest)) flags
      → AreMatcherOf which flags (length front) r made
      → FindEnough n (made ++ others) more → AreMostOf front some → (m : ℕ) × (here later : List Mapped)
      × FindEnough m others later × (more ≡ here ++ later)
      × AreMostOf (front ++ r ∷ []) (some ++ here)
  most_of flags front rest r n made others some more equal (inl (m, is_m, one)) found so_far =
      let (here, later, enough, find, all) = rw one at found in
      let (hits, are, thins) = enough is_m.ends is_m.kinds in (
        n + 1,
        here,
        later,
        find,
        all,
        most_next front r some here hits (inl (is_m.ends, is_m.has, rw is_m.spec at are))
            so_far (thins (of_hits which so_far.0)),
      )
  most_of flags front rest r n made others some more equal (inr (inl (flagged, positive), none)) found so_far =
      let (b, at) = equal (length front) flagged (λ d. rw get_or-append_seam positive) in
      let less : b < length front = at.earlier in
      let same : HaveSameSides (get_or front b r) r =
      rw (get_or_append_left front (r ∷ rest) r b less, get_or-append_seam) at (at.same r) in
      let (first, are, holds) = hits_of_spec which items front 0 b r so_far.0 less so_far.1 in (
        n,
        [],
        more,
        rw none at found,
        refl,
        most_next front r some [] (map (at_spec (length front)) first)
            (spec_at which items (0 + b) (length front) (get_or front b r) r first same are) so_far
            (thins_again g which (length front) (of_hits which so_far.0) first holds),
      )
  most_of flags front rest r n made others some more equal (inr (inr no_ends, none)) found so_far =
      (n, [], more, rw none at found, refl, most_next front r some [] [] (inr (no_ends, refl)) so_far refl)

  pub most_from : (flags : List Bool) (front rest : List Reading) (n : ℕ) (ms : List Matcher) (some more : List Mapped)
      → FlagsEqual (front ++ rest) flags
      → IsJoinedFrom (AreMatcherOf which flags) (length front) rest ms → FindEnough n ms more → AreMostOf front some
      → AreMostOf (front ++ rest) (some ++ more)
  most_from flags front [] n ms some more equal none found so_far = let empty : more ≡ [] =
      rw none at found in rw (append-nil, empty, append-nil) so_far
  most_from flags front (r ∷ rest) n ms some more equal (made, others, of, behind, is) found so_far =
      let (n2, here, later, find, all, next) = most_of flags front rest r n made others some more equal of
      (rw is at found) so_far in
      let whole = append_assoc front (r ∷ []) rest in
      rw (all, ← append_assoc, ← whole) (most_from flags (front ++ r ∷ []) rest n2 others (some ++ here) later
      (rw whole equal) (rw length-append behind) find next)
