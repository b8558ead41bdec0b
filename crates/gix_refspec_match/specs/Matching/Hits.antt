-- Which items the specs of a group take, and the mappings that these make in each direction, by
-- git-fetch(1) and git-push(1) under `<refspec>`. The order of mappings, matching from right to left, and
-- what an id as a source or a destination gives, are this project's own rules.
use Rattle.std.specs.Prelude.{◌≡◌, ◌⊎◌, ℕ, List, [], ◌++◌, Option, None, Some, IsSome, map, unwrap_or}
use Rattle.gix_refspec_text.specs.Specs.Reading.{Reading}
use Rattle.gix_refspec_text.specs.Specs.Grammar.{IsPositive}
use Rattle.gix_refspec_text.specs.Matching.Side.{SideKind, object, HasKind, filled}
use Rattle.gix_refspec_text.specs.Matching.Match.{Ref, Matches, Takes}
use Rattle.gix_refspec_match.specs.Matching.Lists.{IsMadeFrom, IsJoinedFrom}
use Rattle.gix_refspec_match.specs.Matching.Mappings.{name, id, Mapped, AreApart, IsKept}

-- the sides of a spec as one direction sees them: the near one takes items, and the far one, where there
-- is one, is filled
pub record Ends : Type 0 where
  pub near : List ℕ
  pub far : Option (List ℕ)

-- from left to right the source of a positive spec is near, unless it is the id of an object
pub record AreForwardEnds (r : Reading) (ends : Ends) : Type 0 where
  pub positive : IsPositive r.mode
  pub near : r.source ≡ Some ends.near
  pub far : r.destination ≡ ends.far
  pub no_object : (id : List ℕ) → ¬ (HasKind ends.near (object id))

-- from right to left the destination of a positive spec with both sides is near
pub record AreBackwardEnds (r : Reading) (ends : Ends) : Type 0 where
  pub positive : IsPositive r.mode
  pub near : r.destination ≡ Some ends.near
  pub far : r.source ≡ ends.far
  pub both : IsSome ends.far

-- what the far side becomes, where there is one
abbrev pub IsFilled : Option (List ℕ) → Option (List ℕ) → Option (List ℕ) → Type 0
IsFilled None word n = n ≡ None
IsFilled (Some x) word n = (kind : SideKind) × HasKind x kind × (n ≡ Some (filled kind word))

-- that a spec takes an item: their indexes, the item's name, and what the far side becomes
pub record Hit : Type 0 where
  pub spec : ℕ
  pub item : ℕ
  pub near : List ℕ
  pub far : Option (List ℕ)

-- the spec at index k, which has these ends, takes the ref at index j of the items. Taken says which refs a
-- near side takes, a pattern with which word for its star
pub record IsHit (Taken : List ℕ → Ref → Option (List ℕ) → Type 0) (ends : Ends) (k j : ℕ) (r : Ref) (hit : Hit) :
    Type 0 where
  pub word : Option (List ℕ)
  pub takes : Taken ends.near r word
  pub far : IsFilled ends.far word hit.far
  pub near : hit.near ≡ r.name
  pub spec : hit.spec ≡ k
  pub item : hit.item ≡ j

-- the items that the spec at index k takes, in order, and none where it has no such ends
abbrev pub AreSpecHits : (Reading → Ends → Type 0) → (List ℕ → Ref → Option (List ℕ) → Type 0) → List Ref → ℕ → Reading
    → List Hit → Type 0
AreSpecHits HasEnds Taken items k r hits =
    ((ends : Ends) × HasEnds r ends × IsMadeFrom (IsHit Taken ends k) 0 items hits)
    ⊎ (((ends : Ends) → ¬ (HasEnds r ends)) × (hits ≡ []))

-- the items that the specs of a group take, by spec, and for each by item
abbrev pub AreHits : (Reading → Ends → Type 0) → (List ℕ → Ref → Option (List ℕ) → Type 0) → List Reading → List Ref
    → List Hit → Type 0
AreHits HasEnds Taken g items hits = IsJoinedFrom (AreSpecHits HasEnds Taken items) 0 g hits

-- from left to right an item's name is the source
abbrev pub forward_of : Hit → Mapped
forward_of hit = record { item = Some hit.item; source = name hit.near; destination = hit.far; spec = hit.spec }

-- from right to left an item's name is the destination, and there is a far side
abbrev pub backward_of : Hit → Mapped
backward_of hit = record {
  item = Some hit.item;
  source = name (unwrap_or hit.far []);
  destination = Some hit.near;
  spec = hit.spec;
}

-- the mapping of the positive spec at index k whose source is the id of an object: it takes no item
pub record IsIdMapping (k : ℕ) (r : Reading) (m : Mapped) : Type 0 where
  pub positive : IsPositive r.mode
  pub text : List ℕ
  pub bytes : List ℕ
  pub side : r.source ≡ Some text
  pub object : HasKind text (object bytes)
  pub item : m.item ≡ None
  pub source : m.source ≡ id bytes
  pub destination : IsFilled r.destination None m.destination
  pub spec : m.spec ≡ k

-- the mappings from left to right: first those of ids, by spec; then those of the items that sources take, by
-- spec and item
pub record AreForward (g : List Reading) (items : List Ref) (list : List Mapped) : Type 0 where
  pub ids : List Mapped
  pub hits : List Hit
  pub are_ids : IsMadeFrom IsIdMapping 0 g ids
  pub are_hits : AreHits AreForwardEnds (Takes items) g items hits
  pub all : list ≡ ids ++ map forward_of hits

-- the mappings from right to left: those of the items that destinations match, by spec and item
pub record AreBackward (g : List Reading) (items : List Ref) (list : List Mapped) : Type 0 where
  pub hits : List Hit
  pub are_hits : AreHits AreBackwardEnds Matches g items hits
  pub all : list ≡ map backward_of hits

-- those of the mappings from left to right that are kept
pub record AreKeptForward (g : List Reading) (items : List Ref) (kept : List Mapped) : Type 0 where
  pub all : List Mapped
  pub forward : AreForward g items all
  pub is : IsKept g all kept

-- those of the mappings from right to left that are kept
pub record AreKeptBackward (g : List Reading) (items : List Ref) (kept : List Mapped) : Type 0 where
  pub all : List Mapped
  pub backward : AreBackward g items all
  pub is : IsKept g all kept

-- a group and items have one list of mappings from left to right that are kept, at most
abbrev pub OneForward : List Reading → List Ref → Type 0
OneForward g items = (l m : List Mapped) → AreKeptForward g items l → AreKeptForward g items m → l ≡ m

-- and one from right to left
abbrev pub OneBackward : List Reading → List Ref → Type 0
OneBackward g items = (l m : List Mapped) → AreKeptBackward g items l → AreKeptBackward g items m → l ≡ m

-- no two of the mappings that are kept have the same pair, in either direction
abbrev pub KeptOnce : List Reading → List Ref → Type 0
KeptOnce g items = (list : List Mapped) → AreKeptForward g items list ⊎ AreKeptBackward g items list → AreApart list
