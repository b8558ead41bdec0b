-- What one spec makes of one ref, and of each ref of a name.
use Rattle.gix_refspec_match.proofs.Common.{List, [], ◌∷◌, None, Some, codes, refl, ◌≡◌, ℕ, ◌++◌, Option, sym, ◌∙◌}
use Rattle.gix_refspec_match.proofs.Common.{arith, inl, inr, ap, append-nil, map, first_of_one, kind_of_side, Ref}
use Rattle.gix_refspec_match.proofs.Common.{MatchesAs}
use Rattle.gix_refspec_match.proofs.Common.{pattern, full_name, object, partial, SideKind, HasKind, IsCandidate}
use Rattle.gix_refspec_match.proofs.Common.{Reading, IsMadeFrom, Ends, IsFilled, Hit, IsHit, AreHits, AreForwardEnds}
use Rattle.gix_refspec_match.proofs.Common.{AreBackwardEnds}
use Rattle.gix_refspec_match.proofs.Common.{HasSideKind, IsMade, IsRenamed, HaveSides, HasNoSides, Sides, DeclaredKind}
use Rattle.gix_refspec_match.proofs.Common.{filled_side, length, ◌≢◌, Bor, MatchOption, name, MapsName, MapsNameBack}
use Rattle.gix_refspec_match.proofs.Common.{backward_of, IsIdMapping, Mapped, HasEnds, TakesIn, Candidates, First, All}
use Rattle.gix_refspec_match.proofs.Common.{IsFolder, MatchesNamed, IsFirstIn}
use Rattle.std.proofs.lemmas.List.{append_cancel_right}
use Rattle.gix_refspec_match.proofs.lemmas.hits.MatcherLemmas.{side_shown}
use Rattle.gix_refspec_match.proofs.lemmas.hits.HitLemmas.{candidate_at, candidate_cases, far_filled, one_kind}
use Rattle.gix_refspec_match.proofs.lemmas.hits.HitLemmas.{matches_as, same_side, taken_matches, takes_in}

-- a folder before a partial name makes a candidate of it
pub folder_candidate : (before x n : List ℕ) → IsFolder before → n ≡ before ++ x → IsCandidate x n
folder_candidate before x n (inl is) same = candidate_at x n 0 (rw (same, is) refl)
folder_candidate before x n (inr (inl is)) same = candidate_at x n 1 (rw (same, is) refl)
folder_candidate before x n (inr (inr (inl is))) same = candidate_at x n 2 (rw (same, is) refl)
folder_candidate before x n (inr (inr (inr (inl is)))) same = candidate_at x n 3 (rw (same, is) refl)
folder_candidate before x n (inr (inr (inr (inr is)))) same = candidate_at x n 4 (rw (same, is) refl)

pub head_candidate : (x n : List ℕ) → n ≡ codes "refs/remotes/" ++ (x ++ codes "/HEAD") → IsCandidate x n
head_candidate x n same = candidate_at x n 5 (rw same refl)

pub named_matches : (k : SideKind) (r : Ref) (word : Option (List ℕ)) → MatchesNamed k r.name word → MatchesAs k r word
named_matches (pattern before after) r (Some w) is = is
named_matches (pattern before after) r None is = absurd is
named_matches (object id) r word is = absurd is
named_matches (full_name x) r word is = is
named_matches (partial x) r word is = is

first_alone : (which : Candidates) (k : SideKind) (r : Ref) (word : Option (List ℕ)) → MatchesNamed k r.name word
    → IsFirstIn k which (r ∷ []) r.name
first_alone First (partial x) r word is = first_of_one x r is.1
first_alone All (partial x) r word is = tt
first_alone which (pattern before after) r word is = tt
first_alone which (object id) r word is = absurd is
first_alone which (full_name x) r word is = tt

module _ (which : Candidates) (r : Reading) (ref : Ref) where
  abbrev pub HitsAlone : List Hit → Type 0
  HitsAlone = AreHits (HasEnds which) (TakesIn which (ref ∷ [])) (r ∷ []) (ref ∷ [])

  pub hit_alone : (ends : Ends) (k : SideKind) (word far : Option (List ℕ)) → HasEnds which r ends
      → HasKind ends.near k → MatchesNamed k ref.name word → IsFilled ends.far word far
      → HitsAlone ((record { spec = 0; item = 0; near = ref.name; far = far }) ∷ [])
  hit_alone ends k word far has kind is filled =
      let takes = takes_in which (ref ∷ []) ends.near k ref word kind (named_matches k ref word is)
      (first_alone which k ref word is) in
      let hit : IsHit (TakesIn which (ref ∷ [])) ends 0 0 ref
      (record { spec = 0; item = 0; near = ref.name; far = far }) =
      record { word = word; takes = takes; far = filled; near = refl; spec = refl; item = refl } in
      (_, [], inl (ends, has, (Some _, [], hit, refl, refl)), refl, refl)

  -- where there is a hit, the near end matches the ref
  pub alone_matched : (hits : List Hit) → HitsAlone hits → ¬ (hits ≡ []) → (ends : Ends) × HasEnds which r ends
      × ((k : SideKind) → HasKind ends.near k → (word : Option (List ℕ)) × MatchesAs k ref word)
  alone_matched hits (made, rest, inl (ends, has, (Some hit, others, is, none, same)), nothing, all) some = (
    ends,
    has,
    λ k kind. (
      is.word,
      matches_as ends.near k ref is.word kind
          (taken_matches which (ref ∷ []) ends.near ref is.word is.takes),
    ),
  )
  alone_matched hits (made, rest, inl (ends, has, (None, others, no_hit, none, same)), nothing, all) some =
      absurd (some (cc (all, nothing, same, none)))
  alone_matched hits (made, rest, inr (no_ends, none), nothing, all) some = absurd (some (cc (all, nothing, none)))

-- a ref of the name n that no side of the kind matches by its ids
abbrev apart_from : SideKind → List ℕ → Ref
apart_from (object id) n = record { name = n; target = 0 ∷ id; object = None }
apart_from (pattern before after) n = record { name = n; target = []; object = None }
apart_from (full_name x) n = record { name = n; target = []; object = None }
apart_from (partial x) n = record { name = n; target = []; object = None }

apart_named : (k : SideKind) (n : List ℕ) → (apart_from k n).name ≡ n
apart_named k n = elim k as (λ k. (apart_from k n).name ≡ n)
    [ pattern before after ↦ refl | full_name x ↦ refl | object id ↦ refl | partial x ↦ refl ]

apart_matched : (k : SideKind) (n : List ℕ) (word : Option (List ℕ)) → MatchesAs k (apart_from k n) word
    → MatchesNamed k n word
apart_matched (pattern before after) n (Some w) is = is
apart_matched (pattern before after) n None is = absurd is
apart_matched (full_name x) n word is = is
apart_matched (object id) n word is = elim is.1 [ inl same ↦ omega (arith, ap length same) | inr none ↦ cc (none) ]
apart_matched (partial x) n word is = is

-- where each ref of a name has hits, the near end matches each by its name
each_matched : (which : Candidates) (n : List ℕ) (r : Reading) (k : SideKind)
    → ((ref : Ref) → ref.name ≡ n → (hits : List Hit) × HitsAlone which r ref hits × ¬ (hits ≡ []))
    → (ends : Ends) × HasEnds which r ends × (HasKind ends.near k → (word : Option (List ℕ)) × MatchesNamed k n word)
each_matched which n r k each =
    let (hits, are, some) = each (apart_from k n) (apart_named k n) in
    let (ends, has, matched) = alone_matched which r (apart_from k n) hits are some in
    (ends, has, λ kind. let (word, is) = matched k kind in (word, apart_matched k n word is))

no_item : (k : ℕ) (r : Reading) (ids : List Mapped) (m : Mapped) → IsMadeFrom IsIdMapping k (r ∷ []) ids → ids ≡ m ∷ []
    → m.item ≡ None
no_item k r ids m (Some x, rest, is, none, same) one = cc (is.item, none, same, one)
no_item k r ids m (None, rest, is, none, same) one =
    absurd (omega (arith, ap length one, ap length same, ap length none))

pub mapped_ends : (n : List ℕ) (r : Reading) (m : Mapped) (k : SideKind) → MapsName n r m → (ends : Ends)
    × AreForwardEnds r ends × (HasKind ends.near k → (word : Option (List ℕ)) × MatchesNamed k n word)
mapped_ends n r m k maps = each_matched First n r k (λ ref same.
    let all = maps.each ref same in (
      all.hits,
      all.are_hits,
      λ none. let item =
          no_item 0 r all.ids m all.are_ids (sym (all.all ∙ rw none (append-nil all.ids))) in cc (item, maps.item),
    ))

one_of_none : (m : Mapped) (hits : List Hit) → hits ≡ [] → m ∷ [] ≡ map backward_of hits → ⊥
one_of_none m hits none same = omega (arith, ap length (rw none at same))

pub mapped_back_ends : (n : List ℕ) (r : Reading) (m : Mapped) (k : SideKind) → MapsNameBack n r m → (ends : Ends)
    × AreBackwardEnds r ends × (HasKind ends.near k → (word : Option (List ℕ)) × MatchesNamed k n word)
mapped_back_ends n r m k maps = each_matched All n r k (λ ref same.
    let all = maps.each ref same in
    (all.hits, all.are_hits, λ none. one_of_none m all.hits none all.all))

pub maps_name : (n : List ℕ) (r : Reading) (ends : Ends) (k : SideKind) (word far : Option (List ℕ))
    → AreForwardEnds r ends → HasKind ends.near k → MatchesNamed k n word → IsFilled ends.far word far
    → MapsName n r (record { item = Some 0; source = name n; destination = far; spec = 0 })
maps_name n r ends k word far has kind is filled = record {
  each = λ ref same. record {
    ids = [];
    hits = _;
    are_ids = (None, [], no_id, refl, refl);
    are_hits =
        hit_alone First r ref ends k word far has kind (rw same is) filled;
    all = rw same refl;
  };
  item = refl;
}
  where
    no_id : (m : Mapped) → ¬ (IsIdMapping 0 r m)
    no_id m made = has.no_object made.bytes (rw (same_side r.source ends.near made.text has.near made.side) made.object)

pub maps_back_name : (n : List ℕ) (r : Reading) (ends : Ends) (k : SideKind) (word : Option (List ℕ)) (source : List ℕ)
    → AreBackwardEnds r ends → HasKind ends.near k → MatchesNamed k n word → IsFilled ends.far word (Some source)
    → MapsNameBack n r (record { item = Some 0; source = name source; destination = Some n; spec = 0 })
maps_back_name n r ends k word source has kind is filled =
    record {
      each = λ ref same. record {
        hits = _;
        are_hits =
            hit_alone All r ref ends k word (Some source) has kind (rw same is) filled;
        all = rw same refl;
      };
    }

-- a candidate without a folder before the partial name is the head of a remote
pub head_alone : (x n : List ℕ) (folder : Option (Bor (List ℕ)))
    → MatchOption folder ((front : List ℕ) → n ≢ front ++ x) (λ b. n ≡ b.now ++ x)
    → ((b : Bor (List ℕ)) → folder ≡ Some b → ¬ (IsFolder b.now))
    → IsCandidate x n → n ≡ codes "refs/remotes/" ++ (x ++ codes "/HEAD")
head_alone x n None none others one = elim (candidate_cases x n one)
    [ inl (before, folder, same) ↦ absurd (none before same) | inr head ↦ head ]
head_alone x n (Some b) left others one = elim (candidate_cases x n one) [
  | inl (before, folder, same) ↦ absurd (others b refl
      (rw (append_cancel_right before b.now x (sym same ∙ left)) at folder))
  | inr head ↦ head
]

pub unmapped : (n : List ℕ) (r : Reading) → HasNoSides r → (m : Mapped) → ¬ (MapsName n r m)
unmapped n r none m maps = let (ends, has, matched) = mapped_ends n r m (full_name []) maps in grind (arith, has, none)

pub unmapped_back : (n : List ℕ) (r : Reading) → HasNoSides r → (m : Mapped) → ¬ (MapsNameBack n r m)
unmapped_back n r none m maps = let (ends, has, matched) = mapped_back_ends n r m (full_name []) maps in
    grind (arith, has, none)

module _ (n : List ℕ) (r : Reading) (sides : Sides) (have : HaveSides r sides) where
  pub source_unmatched : ((word : Option (List ℕ)) → ¬ (MatchesNamed (kind_of_side sides.source) n word))
      → (m : Mapped) → ¬ (MapsName n r m)
  source_unmatched none m maps =
      let (ends, has, matched) = mapped_ends n r m (kind_of_side sides.source) maps in
      let (word, is) = matched (rw has.near at have.source) in
      none word is

  pub source_matched : (word far : Option (List ℕ)) → MatchesNamed (kind_of_side sides.source) n word
      → far ≡ filled_side sides.destination word
      → MapsName n r (record { item = Some 0; source = name n; destination = far; spec = 0 })
  source_matched word far is same =
      let (text, side, kind) = side_shown r.source sides.source have.source in
      let no_object : (id : List ℕ) → ¬ (HasKind text (object id)) =
      λ id also. rw (one_kind text (kind_of_side sides.source) (object id) kind also) at is in
      maps_name n r (record { near = text; far = r.destination }) (kind_of_side sides.source) word far
      (record { positive = have.positive; near = side; far = refl; no_object = no_object }) kind is
      (far_filled r.destination sides.destination word far have.destination same)

  pub no_destination : sides.destination ≡ None → (m : Mapped) → ¬ (MapsNameBack n r m)
  no_destination none m maps = let (ends, has, matched) = mapped_back_ends n r m (full_name []) maps in
      rw (has.near, none) at have.destination

  module _ (side : DeclaredKind) (there : sides.destination ≡ Some side) where
    pub destination_unmatched : ((word : Option (List ℕ)) → ¬ (MatchesNamed (kind_of_side side) n word)) → (m : Mapped)
        → ¬ (MapsNameBack n r m)
    destination_unmatched none m maps =
        let (ends, has, matched) = mapped_back_ends n r m (kind_of_side side) maps in
        let (word, is) = matched (rw (has.near, there) at have.destination) in
        none word is

    pub destination_matched : (word : Option (List ℕ)) (source : List ℕ) → MatchesNamed (kind_of_side side) n word
        → Some source ≡ filled_side (Some sides.source) word
        → MapsNameBack n r (record { item = Some 0; source = name source; destination = Some n; spec = 0 })
    destination_matched word source is same =
        let (text, near, kind) = side_shown r.destination side (rw there at have.destination) in
        let (from, far, from_kind) = side_shown r.source sides.source have.source in
        maps_back_name n r (record { near = text; far = r.source }) (kind_of_side side) word source
        (record { positive = have.positive; near = near; far = refl; both = rw far refl }) kind is
        (far_filled r.source (Some sides.source) word (Some source) have.source same)

-- a side of which no full name is made isn't one
pub renamed : (x : Option (List ℕ)) (k : Option DeclaredKind) → HasSideKind x k → IsMade k → IsRenamed x
renamed (Some x) (Some k) kind made = λ n full. made n (one_kind x (kind_of_side k) (full_name n) kind full)
renamed (Some x) None kind made = absurd kind
renamed None (Some k) kind made = absurd kind
renamed None None kind made = absurd made
