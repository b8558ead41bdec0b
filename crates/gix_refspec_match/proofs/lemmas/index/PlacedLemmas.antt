-- Which items needles take of those that the index lists.
use Rattle.gix_refspec_match.proofs.Common.{length-map, List, [], ◌∷◌, None, Some, refl, ◌≡◌, ℕ, true, ◌++◌, Option}
use Rattle.gix_refspec_match.proofs.Common.{◌∙◌, arith, ap, ◌<◌, length, map, take, drop, ◌+◌, get_or, append_assoc}
use Rattle.gix_refspec_match.proofs.Common.{rules, ◌↔◌, map_long, made_next, joined_next, option_to_list, Bool}
use Rattle.gix_refspec_match.proofs.Common.{MatchBool, MatchBool-at_true, map_more, length-take-le, take_more}
use Rattle.gix_refspec_match.proofs.Common.{get_or-map, first_candidate, kind_of_side, BeginsWith, Ref, MatchesAs}
use Rattle.gix_refspec_match.proofs.Common.{pattern, object, full_name, partial, SideKind, MakesOf, IsMadeFrom}
use Rattle.gix_refspec_match.proofs.Common.{IsJoinedFrom, AreFound, hit_at, AddsFound, IsFound, IsIndexFor, TakesWhole}
use Rattle.gix_refspec_match.proofs.Common.{IsIndexOf, IsListed, HasNamesOf, ListsFor, MatchesListed, IsTaken}
use Rattle.gix_refspec_match.proofs.Common.{TakesEach, ref_of, DeclaredHit, Index, Names, Candidates, First, Matcher}
use Rattle.gix_refspec_match.proofs.Common.{Item, All-from_recursion, slice_get_within}
use Rattle.gix_refspec_match.proofs.lemmas.hits.HitLemmas.{blank}
use Rattle.gix_refspec_match.proofs.lemmas.lists.ListsLemmas.{cut, each_made}

pub matches_taken : (kind : SideKind) (which : Candidates) (items : List Ref) (r : Ref)
    → (IsTaken which items kind r → MatchesListed kind r)
    × (TakesEach kind → MatchesListed kind r → IsTaken which items kind r)
matches_taken kind which items r = grind arith

pub begins_as : (before after : List ℕ) (r : Ref) (w : Option (List ℕ)) → MatchesAs (pattern before after) r w
    → BeginsWith before r.name
begins_as before after r word is = grind (arith, is)

abbrev pub IsMatchedAt : List Ref → SideKind → ℕ → ℕ → ℕ → DeclaredHit → Type 0
IsMatchedAt items kind k i place hit = MatchesListed kind (get_or items place blank) × (hit ≡ hit_at k place)

-- where those are taken of which P holds and that match, the hits on the places of which P holds are all that are found
through : (which : Candidates) (items : List Ref) (kind : SideKind) (k : ℕ) (P : Ref → Type 0)
    → ((r : Ref) → IsTaken which items kind r ↔ (P r × MatchesListed kind r))
    → (j : ℕ) (rest : List Ref) (places : List ℕ) (i : ℕ)
    (hits : List DeclaredHit) → drop j items ≡ rest → IsMadeFrom (λ n r place. P r × (place ≡ n)) j rest places
    → IsMadeFrom (IsMatchedAt items kind k) i places hits → IsMadeFrom (IsFound which items kind k) j rest hits
through which items kind k P each j [] places i hits at none over = rw none at over
through which items kind k P each j (r ∷ rest) places i hits at (None, others, none, more, same) over = (
  None,
  hits,
  (λ hit is. none j (((each r).0 is.0).0, refl)),
  (through which items kind k P each (j + 1) rest others i hits (cut items rest j blank r at).2 more
      (rw same at over)),
  refl,
)
through which items kind k P each j (r ∷ rest) places i hits at (Some place, others, here, more, same) over =
    let (made, further, makes, behind, all) : IsMadeFrom (IsMatchedAt items kind k) i (place ∷ others) hits =
    rw same at over in (
      made,
      further,
      of made makes,
      through which items kind k P each (j + 1) rest others (i + 1) further
          (cut items rest j blank r at).2 more behind,
      all,
    )
  where
    stands : get_or items place blank ≡ r
    stands = ap (λ n. get_or items n blank) here.1 ∙ (cut items rest j blank r at).0

    of : (made : Option DeclaredHit) → MakesOf (IsMatchedAt items kind k) i place made
        → MakesOf (IsFound which items kind k) j r made
    of None none = λ hit is. none hit (rw stands ((each r).0 is.0).1, rw here.1 is.1)
    of (Some hit) is = ((each r).1 (here.0, rw stands at is.0), rw here.1 at is.1)

pub all_found : (which : Candidates) (items : List Ref) (kind : SideKind) (k : ℕ) (places : List ℕ)
    (hits : List DeclaredHit) → ListsFor which items kind places → IsMadeFrom (IsMatchedAt items kind k) 0 places hits
    → IsMadeFrom (IsFound which items kind k) 0 items hits
all_found which items (pattern before after) k places hits lists over =
    through which items _ k (λ r. BeginsWith before r.name)
    (λ r. search (rules, begins_as before after r)) 0 items places 0 hits refl lists over
all_found which items (object id) k places hits lists over = absurd lists
all_found First items (partial x) k places hits lists over =
    through First items _ k (TakesWhole (partial x) First items)
    (λ r. search (rules, first_candidate items x r.name)) 0 items places 0 hits refl lists over
all_found which items kind k places hits lists over = through which items kind k (TakesWhole kind which items)
    (λ r. search rules) 0 items places 0 hits refl lists over

pub place_fits : (which : Candidates) (items : List Ref) (kind : SideKind) (places : List ℕ) (i d : ℕ)
    → ListsFor which items kind places → i < length places → get_or places i d < length items
place_fits which items (object id) places i d lists below = absurd lists
place_fits which items kind places i d lists below =
    All-from_recursion (λ p. p < length items) places
    (each_made _ _ items (λ j x y at is. rw is.1 (slice_get_within items j x at)) 0 items places refl lists) i d
    below

-- behind the old elements are those that are made of some others
abbrev Appends : {X Y : Type 0} → (ℕ → X → Y → Type 0) → List X → List Y → List Y → Type 0
Appends {X} {Y} R xs old now = (made : List Y) × IsMadeFrom R 0 xs made × (now ≡ old ++ made)

append_made : {X Y : Type 0} (R : ℕ → X → Y → Type 0) (i : ℕ) (xs ys : List X) (x : X) (made : Option Y)
    (old mid new : List Y) → length xs ≡ i
    → ys ≡ xs ++ x ∷ [] → MakesOf R i x made → new ≡ mid ++ option_to_list made → Appends R xs old mid
    → Appends R ys old new
append_made R i xs ys x made old mid new long whole makes more (so_far, are, all) =
    search (rules, long, whole, makes, more, append_assoc, made_next)

-- behind the old hits are those on the items at some places
abbrev pub MatchedSoFar : List Ref → SideKind → ℕ → List ℕ → List DeclaredHit → List DeclaredHit → Type 0
MatchedSoFar items kind k places old now = Appends (IsMatchedAt items kind k) places old now

pub place_next : (which : Candidates) (xs : List Item) (kind : SideKind) (k : ℕ) (places : List ℕ) (i e : ℕ) (d : Item)
    (made : Option DeclaredHit) (old mid new : List DeclaredHit) → i < length places
    → ListsFor which (map ref_of xs) kind places
    → MakesOf (λ n place hit. MatchesListed kind (ref_of (get_or xs place d)) × (hit ≡ hit_at k place)) i
    (get_or places i e) made
    → new ≡ mid ++ option_to_list made → MatchedSoFar (map ref_of xs) kind k (take i places) old mid
    → MatchedSoFar (map ref_of xs) kind k (take (i + 1) places) old new
place_next which xs kind k places i e d made old mid new below listed makes more so_far =
    let inside : get_or places i e < length xs =
    rw length-map at (place_fits which (map ref_of xs) kind places i e listed below) in
    append_made _ i _ _ _ made old mid new (length-take-le i places (omega arith)) (take_more places i e below)
    (rw (get_or-map ref_of xs (get_or places i e) d blank inside) makes) more so_far

-- behind the old hits are those on some items
abbrev pub FoundSoFar : Candidates → List Ref → SideKind → ℕ → List Ref → List DeclaredHit → List DeclaredHit → Type 0
FoundSoFar which items kind k refs old now = Appends (IsFound which items kind k) refs old now

pub item_next : (which : Candidates) (items : List Ref) (xs : List Item) (kind : SideKind) (k i : ℕ) (d : Item)
    (made : Option DeclaredHit) (old mid new : List DeclaredHit) → i < length xs
    → MakesOf (IsFound which items kind k) i (ref_of (get_or xs i d)) made → new ≡ mid ++ option_to_list made
    → FoundSoFar which items kind k (map ref_of (take i xs)) old mid
    → FoundSoFar which items kind k (map ref_of (take (i + 1) xs)) old new
item_next which items xs kind k i d made old mid new below makes more so_far = append_made _ i _ _ _ made old mid new
    (map_long ref_of xs i below) (map_more ref_of xs i d below) makes more so_far

pub found_next : (which : Candidates) (items : List Ref) (ms : List Matcher) (i : ℕ) (d : Matcher) (P : Type 0)
    (within : Bool) (old new : List DeclaredHit) → i < length ms → within ≡ true
    → MatchBool within (AddsFound which items (kind_of_side (get_or ms i d).needle) i old new) P
    → IsJoinedFrom (AreFound which items) 0 (take i ms) old → IsJoinedFrom (AreFound which items) 0
    (take (i + 1) ms) new
found_next which items ms i d P within old new below is told so_far =
    let adds = MatchBool-at_true _ _ is told in
    rw (adds.all, take_more ms i d below)
    (joined_next (AreFound which items) i (take i ms) (get_or ms i d) old adds.made
    (length-take-le i ms (omega arith)) so_far adds.are)

pub named_listed : (which : Candidates) (refs : List Ref) (names : Names) (index : Index)
    → IsIndexOf which names refs index → (kind : SideKind) → HasNamesOf names kind → IsIndexFor which refs index kind
named_listed which refs names index of_names kind named =
    record { names = listed kind named; prefixes = of_names.prefixes }
  where
    listed : (kind : SideKind) → HasNamesOf names kind → IsListed which refs index kind
    listed (full_name x) named = let at = of_names.full.each x named in rw at.1 at.2
    listed (partial x) named = let at = of_names.partial x named in rw at.1 at.2
    listed kind named = tt
