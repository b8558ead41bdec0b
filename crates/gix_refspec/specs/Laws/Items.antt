-- Laws of matching a subset of the items, or items without their ids: what a caller may leave out. They follow from the
-- definitions in Hits and Laws/Matching, and add no rule.
use Rattle.std.specs.Prelude.{◌≡◌, ◌⊎◌, ◌↔◌, ◌<◌, ℕ, Bool, IsTrue, nat_eq, List, [], ◌∷◌, length, map, Option, Some}
use Rattle.std.specs.List.{AllByRecursion, Any, Contains, filter, list_any, slice_get, starts_with}
use Rattle.bstr.specs.BStr.{bstr_bytes}
use Rattle.gix_refspec_match.specs.declared.types.Item.{Item}
use Rattle.gix_refspec_text.specs.declared.parsing.Operation.TheVariants.{Fetch}
use Rattle.gix_refspec_text.specs.Texts.Bytes.{head}
use Rattle.gix_refspec_text.specs.Texts.Words.{BeginsWith}
use Rattle.gix_refspec_text.specs.Specs.Reading.{Reading}
use Rattle.gix_refspec_text.specs.Matching.Side.{IsId}
use Rattle.gix_refspec_text.specs.Matching.Match.{Ref, HasName, Matches, Takes}
use Rattle.gix_refspec_match.specs.Matching.Mappings.{Mapped, HasPair}
use Rattle.gix_refspec_match.specs.Views.Mapping.{ref_of}
use Rattle.gix_refspec_match.specs.Matching.Hits.{Ends, AreForwardEnds, AreBackwardEnds, AreKeptForward}
use Rattle.gix_refspec_match.specs.Matching.Hits.{AreKeptBackward}
use Rattle.gix_refspec_text.specs.Laws.Covering.{HasCoveringSource}
use Rattle.gix_refspec.specs.Laws.Matching.{AreFetches, MakesForward, BeginsWithOne, AreExpansions}
use Rattle.gix_refspec.specs.Matching.Asked.{ListsBeside}

-- the refs B are a subset of the refs A
abbrev pub ArePart : List Ref → List Ref → Type 0
ArePart A B = (item : Ref) → Contains B item → Contains A item

-- the reading takes the item
pub record TakesItem (HasEnds : Reading → Ends → Type 0) (Taken : List ℕ → Ref → Option (List ℕ) → Type 0) (item : Ref)
    (r : Reading) : Type 0 where
  pub ends : Ends
  pub has : HasEnds r ends
  pub word : Option (List ℕ)
  pub takes : Taken ends.near item word

-- B contains each item of A that some reading takes
abbrev pub HasTaken : (Reading → Ends → Type 0) → (List ℕ → Ref → Option (List ℕ) → Type 0) → List Reading → List Ref
    → List Ref → Type 0
HasTaken HasEnds Taken g A B = (item : Ref) → Contains A item → Any (TakesItem HasEnds Taken item) g → Contains B item

-- two lists of mappings have the same pairs
abbrev pub HaveSamePairs : List Mapped → List Mapped → Type 0
HaveSamePairs l m = (pair : Mapped) → HasPair l pair ↔ HasPair m pair

-- if B is a subset of A and contains each item of A that some reading takes, the same pairs are kept over B as over A.
-- What a reading takes is what it takes among A: so the first candidate of a partial source isn't left out
pub record FewerItems (g : List Reading) (A B : List Ref) : Type 0 where
  pub forward : ArePart A B → HasTaken AreForwardEnds (Takes A) g A B → (kept fewer : List Mapped)
      → AreKeptForward g A kept → AreKeptForward g B fewer → HaveSamePairs kept fewer
  pub backward : ArePart A B → HasTaken AreBackwardEnds Matches g A B → (kept fewer : List Mapped)
      → AreKeptBackward g A kept → AreKeptBackward g B fewer → HaveSamePairs kept fewer

-- two lists of refs have the same names, in order
abbrev pub HaveSameNames : List Ref → List Ref → Type 0
HaveSameNames A B = map (λ (r : Ref). r.name) A ≡ map (λ (r : Ref). r.name) B

-- from left to right only the names of refs decide what is kept: refs with the same names have the same mappings
abbrev pub NamesDecide : List Reading → List Ref → Type 0
NamesDecide g A = (B : List Ref) → HaveSameNames A B → (kept : List Mapped) → AreKeptForward g A kept
    → AreKeptForward g B kept

-- the destination of the reading is an id
abbrev pub HasIdDestination : Reading → Type 0
HasIdDestination r = (text : List ℕ) × (r.destination ≡ Some text) × IsId text

-- no destination of the readings is an id
abbrev pub AsksForNoId : List Reading → Type 0
AsksForNoId g = AllByRecursion (λ r. ¬ (HasIdDestination r)) g

-- so they decide from right to left if no destination is an id
abbrev pub NamesDecideBack : List Reading → List Ref → Type 0
NamesDecideBack g A = AsksForNoId g → (B : List Ref) → HaveSameNames A B → (kept : List Mapped)
    → AreKeptBackward g A kept → AreKeptBackward g B kept

-- the reading fetches `HEAD`, and one of the refs has that name
pub record FetchesHead (A : List Ref) (r : Reading) : Type 0 where
  pub fetch : r.operation ≡ Fetch
  pub source : r.source ≡ Some head
  pub there : HasName A head

-- each name that the source of the reading takes among the refs begins with an entry of its expansion: the source is
-- covering, or it is `HEAD` and the refs have that name. If they lack it, `HEAD` takes `refs/heads/HEAD`
abbrev pub IsListed : List Ref → Reading → Type 0
IsListed A r = HasCoveringSource r ⊎ FetchesHead A r

-- B is a subset of A, and contains each item of A whose name begins with an entry of the expansion of the readings
pub record AreListedItems (g : List Reading) (A B : List Ref) : Type 0 where
  pub entries : List (List ℕ)
  pub expansions : AreExpansions g entries
  pub part : ArePart A B
  pub listed : (item : Ref) → Contains A item → BeginsWithOne entries item.name → Contains B item

-- over such items, no pair is lost that a listed reading makes, whatever the other readings are; and if each reading is
-- listed, the same pairs are kept
pub record ListedItems (g : List Reading) (A B : List Ref) : Type 0 where
  pub some : AreListedItems g A B → (kept fewer : List Mapped) → AreKeptForward g A kept → AreKeptForward g B fewer
      → (pair : Mapped)
      → HasPair kept pair → Any (λ r. IsListed A r × MakesForward A pair.source pair.destination r) g
      → HasPair fewer pair
  pub all : AreListedItems g A B → AllByRecursion (IsListed A) g → (kept fewer : List Mapped) → AreKeptForward g A kept
      → AreKeptForward g B fewer → HaveSamePairs kept fewer

-- ---- filters

-- the filter passes each item that some reading takes
abbrev pub PassesTaken : (Reading → Ends → Type 0) → (List ℕ → Ref → Option (List ℕ) → Type 0) → List Reading
    → List Item → (Item → Bool) → Type 0
PassesTaken HasEnds Taken g items p = (item : Item) → Contains items item
    → Any (TakesItem HasEnds Taken (ref_of item)) g → IsTrue (p item)

-- the items that pass a filter are a subset of all. If each item that some reading takes passes, each is among them
pub record FilteredItems (g : List Reading) (items some : List Item) : Type 0 where
  pub part : (p : Item → Bool) → some ≡ filter p items → ArePart (map ref_of items) (map ref_of some)
  pub forward : (p : Item → Bool) → some ≡ filter p items → PassesTaken AreForwardEnds (Takes (map ref_of items)) g
      items p → HasTaken AreForwardEnds (Takes (map ref_of items)) g (map ref_of items) (map ref_of some)
  pub backward : (p : Item → Bool) → some ≡ filter p items → PassesTaken AreBackwardEnds Matches g items p
      → HasTaken AreBackwardEnds Matches g (map ref_of items) (map ref_of some)

-- whether the name begins with one of the entries
abbrev pub is_begun : List (List ℕ) → List ℕ → Bool
is_begun entries n = list_any (λ entry. starts_with nat_eq n entry) entries

-- so the items whose names begin with an entry of the expansion of the readings are listed items
abbrev pub FilteredByEntries : List Reading → List Item → List Item → Type 0
FilteredByEntries g items some =
    (entries : List (List ℕ)) → AreExpansions g entries
    → some ≡ filter (λ item. is_begun entries (bstr_bytes item.full_ref_name)) items
    → AreListedItems g (map ref_of items) (map ref_of some)

-- ---- ref prefixes

-- B is a subset of A, and contains each item of A whose name begins with a ref prefix of the list
pub record AreAskedFor (list : List (List ℕ)) (A B : List Ref) : Type 0 where
  pub part : ArePart A B
  pub asked : (item : Ref) → Contains A item → BeginsWithOne list item.name → Contains B item

-- if the list is that of a group of fetches, with others or without, the same pairs are kept over such items, also
-- those
-- of `HEAD`
abbrev pub AskedItems : List Reading → List Ref → List Ref → Type 0
AskedItems g A B = (others list : List (List ℕ)) → ListsBeside others g list → AreFetches g → AreAskedFor list A B
    → (kept fewer : List Mapped) → AreKeptForward g A kept → AreKeptForward g B fewer → HaveSamePairs kept fewer

-- a ref that some reading takes, if there is no other one. Of the list, only the entry at index k begins its name
pub record IsNeededFor (g : List Reading) (list : List (List ℕ)) (k : ℕ) : Type 0 where
  pub ref : Ref
  pub taken : Any (TakesItem AreForwardEnds (Takes (ref ∷ [])) ref) g
  pub alone : (j : ℕ) (p : List ℕ) → slice_get list j ≡ Some p → BeginsWith p ref.name ↔ (j ≡ k)

-- each entry of the list is needed: without it a group of fetches would miss a ref that one of them takes
abbrev pub NeedsEach : List (List ℕ) → List Reading → Type 0
NeedsEach list g = AreFetches g → (k : ℕ) → k < length list → IsNeededFor g list k

-- and the items whose names begin with a ref prefix of the list are such items
abbrev pub FilteredByList : List Item → List Item → Type 0
FilteredByList items some = (list : List (List ℕ))
    → some ≡ filter (λ item. is_begun list (bstr_bytes item.full_ref_name)) items → AreAskedFor list (map ref_of items)
    (map ref_of some)
