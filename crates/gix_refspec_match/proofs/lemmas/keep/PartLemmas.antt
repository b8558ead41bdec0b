-- Items without some that have the name of an earlier one: a matcher's hits among them make what its hits among all
-- make.
use Rattle.gix_refspec_match.proofs.Common.{List, [], ◌∷◌, None, Some, refl, ◌≡◌, ℕ, ◌++◌, sym, ◌∙◌, arith, inl, inr}
use Rattle.gix_refspec_match.proofs.Common.{subst, ap, append-nil, ◌<◌, length, map, drop, ◌+◌, get_or, append_assoc}
use Rattle.gix_refspec_match.proofs.Common.{◌⊎◌, ◌↔◌, zero, suc, length-append, slice_get, get_or-append_seam}
use Rattle.gix_refspec_match.proofs.Common.{slice_get-get_or, all_weaker, kind_of_side, Ref, HasName, object, partial}
use Rattle.gix_refspec_match.proofs.Common.{SideKind, Reading, IsMadeFrom, IsPartBehind, IsPart, Ends, IsHit, Mapped}
use Rattle.gix_refspec_match.proofs.Common.{IsSamePair, HasPair, mapping_of, Thins, hit_of, hit_by, AreFound, turned}
use Rattle.gix_refspec_match.proofs.Common.{hit_at, IsFound, HaveKinds, TakesIn, filled_side, IsFirstIn, IsTaken}
use Rattle.gix_refspec_match.proofs.Common.{DeclaredHit, Candidates, First, Matcher}
use Rattle.gix_refspec_match.proofs.lemmas.hits.HitLemmas.{matched_word, blank, made_each, of_hits, far_filled}
use Rattle.gix_refspec_match.proofs.lemmas.hits.HitLemmas.{matches_as, takes_in, taken_first, taken_matches}
use Rattle.gix_refspec_match.proofs.lemmas.hits.GroupLemmas.{FindsEnough}
use Rattle.gix_refspec_match.proofs.lemmas.index.FirstPlacesLemmas.{has_last}
use Rattle.gix_refspec_match.proofs.lemmas.keep.KeptLemmas.{HasPair-left, HasPair-last, pair_alike, thins_all}
use Rattle.gix_refspec_match.proofs.lemmas.keep.KeptLemmas.{thins_behind}
use Rattle.gix_refspec_match.proofs.lemmas.lists.ListsLemmas.{cut}

hit_seen : (ms : List Matcher) (items : List Ref) (k i : ℕ) (m : Matcher) (d : Ref) → slice_get ms k ≡ Some m
    → i < length items → hit_of ms items (hit_at k i) ≡ hit_by m i (get_or items i d)
hit_seen ms items k i m d is below = let there = slice_get-get_or items i d below in cc

-- the hits that a matcher finds are those of its spec
found_hits : (which : Candidates) (ms : List Matcher) (items : List Ref) (ends : Ends) (k : ℕ) (m : Matcher)
    (found : List DeclaredHit) → slice_get ms k ≡ Some m → HaveKinds ends m → AreFound which items k m found
    → IsMadeFrom (IsHit (TakesIn which items) ends m.spec_index) 0 items (map (hit_of ms items) found)
found_hits which ms items ends k m found at have are =
    let kind = kind_of_side m.needle in
    made_each (hit_of ms items) (IsFound which items kind k) (IsHit (TakesIn which items) ends m.spec_index) items found
    (λ i d below.
    let r = get_or items i d in (
      (λ h of.
          let (word, matches) = of.0.matched in
          let far = ap (filled_side m.other) (sym (matched_word kind r word matches)) in
          let seen : hit_of ms items h ≡ hit_by m i r = ap (hit_of ms items) of.1
          ∙ hit_seen ms items k i m d at below in
          rw seen (search (
            takes_in which items ends.near kind r word have.near matches of.0.first,
            far_filled ends.far m.other word (hit_by m i r).far have.far far,
          ))),
      (λ hit here.
          let matched = matches_as ends.near kind r here.word have.near
          (taken_matches which items ends.near r here.word here.takes) in (
            hit_at k i,
            (
              record {
                matched = (here.word, matched);
                first =
                    taken_first which items ends.near kind r here.word have.near here.takes;
              },
              refl,
            ),
          )),
    )) are

abbrev SameNames : List Ref → List Ref → Type 0
SameNames refs part = (n : List ℕ) → HasName refs n ↔ HasName part n

abbrev EachName : (List ℕ → Type 0) → List Ref → Type 0
EachName P refs = (n : List ℕ) → HasName refs n → P n

each_next : (P : List ℕ → Type 0) (before : List Ref) (r : Ref) → EachName P before → P r.name
    → EachName P (before ++ r ∷ [])
each_next P before r all here n has = elim ((has_last before r n).0 has) [
  | inl earlier ↦ all n earlier
  | inr same ↦
      subst P same here
]

-- the part has each name of the refs, if not from before them
part_has : (before refs part : List Ref) (places n : List ℕ) → IsPartBehind before refs part places
    → (HasName before n ⊎ HasName refs n) ↔ (HasName before n ⊎ HasName part n)
part_has before [] part places n is = rw is.0 (grind arith)
part_has before (r ∷ refs) part places n (inl (rest, others, all, at, more)) =
    rw all (grind (arith, has_last before r n, part_has (before ++ r ∷ []) refs rest others n more))
part_has before (r ∷ refs) part places n (inr (repeats, more)) =
    let old : r.name ≡ n → HasName before n = λ same. subst (HasName before) same repeats in
    grind (arith, old, has_last before r n, part_has (before ++ r ∷ []) refs part places n more)

pub part_read : (all before refs part : List Ref) (places : List ℕ) (i d : ℕ) → all ≡ before ++ refs
    → IsPartBehind before refs part places → i < length part → (get_or places i d < length all)
    × (get_or all (get_or places i d) blank ≡ get_or part i blank)
part_read all before [] part places i d whole is below = absurd (omega (arith, below, ap length is.0))
part_read all before (r ∷ refs) part places zero d whole (inl (rest, others, is, at, more)) below =
    rw (at, is, whole) (omega (arith, length-append before (r ∷ refs)), get_or-append_seam before r refs blank)
part_read all before (r ∷ refs) part places (suc i) d whole (inl (rest, others, is, at, more)) below =
    rw (at, is) (part_read all (before ++ r ∷ []) refs rest others i d (whole ∙ sym (append_assoc before (r ∷ []) refs))
    more (omega (arith, below, ap length is)))
part_read all before (r ∷ refs) part places i d whole (inr (repeats, more)) below =
    part_read all (before ++ r ∷ []) refs part places i d (whole ∙ sym (append_assoc before (r ∷ []) refs)) more below

first_named : (kind : SideKind) (which : Candidates) (a b : List Ref) (n : List ℕ) → SameNames a b
    → IsFirstIn kind which a n → IsFirstIn kind which b n
first_named (partial x) First a b n names first =
    let absent = all_weaker (λ m. ¬ (HasName a m)) (λ m. ¬ (HasName b m)) (λ m none has. none ((names m).1 has))
    first.earlier first.absent in
    record {
      earlier = first.earlier;
      later = first.later;
      here = first.here;
      absent = absent;
      present =
          (names n).0 first.present;
    }
first_named kind which a b n names first = tt

-- over lists of the same names a needle takes refs of one name alike
taken_named : (which : Candidates) (kind : SideKind) (a b : List Ref) (r s : Ref)
    → ((id : List ℕ) → ¬ (kind ≡ object id)) → SameNames a b → r.name ≡ s.name → IsTaken which a kind r
    → IsTaken which b kind s
taken_named which kind a b r s plain names same taken = grind (arith, plain, names, same, taken, first_named)

abbrev pub ref_named : List ℕ → Ref
ref_named n = record { name = n; target = []; object = None }

same_pair : (which : Candidates) (m : Matcher) (i j : ℕ) (r : Ref) → IsSamePair (mapping_of which (hit_by m i r))
    (mapping_of which (hit_by m j (ref_named r.name)))
same_pair which m i j r = grind arith

made_cases : {X Y : Type 0} (R : ℕ → X → Y → Type 0) (k : ℕ) (x : X) (xs : List X) (ys : List Y)
    → IsMadeFrom R k (x ∷ xs) ys
    → ((y : Y) × (rest : List Y) × R k x y × (ys ≡ y ∷ rest) × IsMadeFrom R (k + 1) xs rest)
    ⊎ (((y : Y) → ¬ (R k x y)) × IsMadeFrom R (k + 1) xs ys)
made_cases R k x xs ys (made, rest, of, more, is) = grind (arith, of, more, is)

module _ (g : List Reading) (which : Candidates) (ms : List Matcher) (all : List Ref) where
  pub all_enough : (k : ℕ) (m : Matcher) (found : List DeclaredHit) → slice_get ms k ≡ Some m
      → AreFound which all k m found → FindsEnough g which all m (of_hits which (map (hit_of ms all) found))
  all_enough k m found at are ends have =
      let hits = map (hit_of ms all) found in
      (hits, found_hits which ms all ends k m found at have are, λ before. thins_all g before (of_hits which hits))

  module _ (part : List Ref) (places : List ℕ) (k : ℕ) (m : Matcher) (at : slice_get ms k ≡ Some m)
      (names : SameNames all part) (plain : (id : List ℕ) → ¬ (kind_of_side m.needle ≡ object id)) where
    abbrev Found : List Ref → ℕ → List Ref → List DeclaredHit → Type 0
    Found items = IsMadeFrom (IsFound which items (kind_of_side m.needle) k)

    abbrev Takes : List ℕ → Type 0
    Takes n = IsTaken which all (kind_of_side m.needle) (ref_named n)

    takes : (items : List Ref) (r : Ref) → SameNames items all → IsTaken which items (kind_of_side m.needle) r
        ↔ Takes r.name
    takes items r same = (
      taken_named which _ items all r (ref_named r.name) plain same refl,
      taken_named which _ all items (ref_named r.name) r plain (λ n. ((same n).1, (same n).0)) refl,
    )

    -- what hits make, and the hit on the ref behind some
    abbrev makes : List DeclaredHit → List Mapped
    makes hits = of_hits which (map (hit_of ms all) hits)

    abbrev here : List Ref → DeclaredHit
    here before = hit_at k (length before)

    here_is : (before refs : List Ref) (r : Ref) → all ≡ before ++ (r ∷ refs) → hit_of ms all (here before) ≡ hit_by m
        (length before) r
    here_is before refs r whole =
        let inside : length before < length all = omega (arith, ap length whole, length-append before (r ∷ refs)) in
        rw (hit_seen ms all k (length before) m r at inside, whole, get_or-append_seam) refl

    -- it is known whether a name is taken, and if it is, its pair is made
    abbrev Settled : List Mapped → List ℕ → Type 0
    Settled made n = (Takes n × HasPair made (mapping_of which (hit_by m 0 (ref_named n)))) ⊎ ¬ (Takes n)

    settled_next : (made : List Mapped) (before refs : List Ref) (r : Ref) → all ≡ before ++ (r ∷ refs) → Takes r.name
        → EachName (Settled made) before → EachName (Settled (made ++ makes (here before ∷ []))) (before ++ r ∷ [])
    settled_next made before refs r whole of known =
        let new = mapping_of which (hit_of ms all (here before)) in
        each_next (Settled (made ++ new ∷ [])) before r
        (λ n has. elim (known n has) [
          | inl (t, there) ↦ inl (t, HasPair-left made (new ∷ []) _ there)
          | inr none ↦
              inr none
        ])
        (inl (of, HasPair-last made new _ (rw (here_is before refs r whole) (same_pair which m (length before) 0 r))))

    -- the hits on all refs from some on, and what the hits on the part make is most of what they make
    abbrev Finds : List Ref → List Ref → List Mapped → List DeclaredHit → Type 0
    Finds before refs made found = (hits : List DeclaredHit) × Found all (length before) refs hits
        × Thins g made (makes hits) (makes (map (turned places) found))

    found_next : (before refs : List Ref) (r : Ref) (hits : List DeclaredHit) → Takes r.name
        → Found all (length (before ++ r ∷ [])) refs hits → Found all (length before) (r ∷ refs) (here before ∷ hits)
    found_next before refs r hits of are = (
      Some (here before),
      hits,
      ((takes all r (λ n. ((λ has. has), (λ has. has)))).1 of, refl),
      rw length-append at are,
      refl,
    )

    missed : (before refs : List Ref) (r : Ref) (made : List Mapped) (found : List DeclaredHit) → ¬ (Takes r.name)
        → Finds (before ++ r ∷ []) refs made found → Finds before (r ∷ refs) made found
    missed before refs r made found none (hits, are, thins) = (
      hits,
      (
        None,
        hits,
        (λ h is. none ((takes all r (λ n. ((λ has. has), (λ has. has)))).0 is.0)),
        rw length-append at are,
        refl,
      ),
      thins,
    )

    finds_from : (before refs rest : List Ref) (i : ℕ) (made : List Mapped) (found : List DeclaredHit)
        → all ≡ before ++ refs → IsPartBehind before refs rest (drop i places) → EachName (Settled made) before
        → Found part i rest found → Finds before refs made found
    finds_from before [] rest i made found whole is known are = let none : found ≡ [] =
        rw is.0 at are in ([], refl, ap (λ l. makes (map (turned places) l)) none)
    finds_from before (r ∷ refs) rest i made found whole (inl (others, behind, all_of, first, more)) known are =
        let next = whole ∙ sym (append_assoc before (r ∷ []) refs) in
        let of_part = takes part r (λ n. ((names n).1, (names n).0)) in
        let (read, _, others_left) = cut places behind i i (length before) first in
        let later = subst (IsPartBehind (before ++ r ∷ []) refs others) (sym others_left) more in
        elim (made_cases (IsFound which part (kind_of_side m.needle) k) i r others found (rw all_of at are)) [
          | inr (none, more_found) ↦
              let misses : ¬ (Takes r.name) = λ of. none (hit_at k i) (of_part.1 of, refl) in
              missed before refs r made found misses
              (finds_from (before ++ r ∷ []) refs others (i + 1) made found next later
              (each_next (Settled made) before r known (inr misses)) more_found)
          | inl (h, rest_found, of, same, more_found) ↦
              let taken = of_part.0 of.0 in
              let (hits, among_all, thins) = finds_from (before ++ r ∷ []) refs others (i + 1)
              (made ++ makes (here before ∷ [])) rest_found next later
              (settled_next made before refs r whole taken known) more_found in (
                here before ∷ hits,
                found_next before refs r hits taken among_all,
                inl (makes (map (turned places) rest_found), (rw (same, of.1, read) refl), thins),
              )
        ]
    finds_from before (r ∷ refs) rest i made found whole (inr (repeats, more)) known are =
        let next = whole ∙ sym (append_assoc before (r ∷ []) refs) in
        elim (known r.name repeats) [
          | inl (of, pair) ↦
              let (hits, among_all, thins) = finds_from (before ++ r ∷ []) refs rest i
              (made ++ makes (here before ∷ [])) found next more (settled_next made before refs r whole of known)
              are in
              let there : HasPair made (mapping_of which (hit_of ms all (here before))) =
              rw (here_is before refs r whole)
              (pair_alike made _ _ (same_pair which m 0 (length before) (ref_named r.name)) pair) in
              (here before ∷ hits, found_next before refs r hits of among_all, inr (inl there, thins))
          | inr none ↦ missed before refs r made found none
              (finds_from (before ++ r ∷ []) refs rest i made found next more
              (each_next (Settled made) before r known (inr none)) are)
        ]

  pub once_enough : (part : List Ref) (places : List ℕ) (k : ℕ) (m : Matcher) (found : List DeclaredHit)
      → slice_get ms k ≡ Some m → IsPart all part places → ((id : List ℕ) → ¬ (kind_of_side m.needle ≡ object id))
      → AreFound which part k m found
      → FindsEnough g which all m (of_hits which (map (hit_of ms all) (map (turned places) found)))
  once_enough part places k m found at is plain are ends have =
      let (hits, among_all, thins) = finds_from part places k m at
      (λ n. grind (arith, part_has [] all part places n is)) plain [] all part 0 [] found refl is
      (λ n has. absurd has) are in
      let whole = map (hit_of ms all) hits in (
        whole,
        found_hits which ms all ends k m hits at have among_all,
        λ before. rw append-nil at (thins_behind g before [] (of_hits which whole) _ thins),
      )
