-- Laws of matching: both directions agree, when a pair is kept, groups that map alike, and what covers the sources of a
-- group. They follow from the definitions in Mappings and Hits, and add no rule.
use Rattle.std.specs.Prelude.{◌≡◌, ◌⊎◌, ◌↔◌, ℕ, List, ◌∷◌, ◌++◌, codes, Option, None, Some}
use Rattle.std.specs.List.{AllByRecursion, AllZip, Any, Contains, slice_get}
use Rattle.gix_refspec_text.specs.declared.parsing.Operation.TheVariants.{Fetch}
use Rattle.gix_refspec_text.specs.Texts.Words.{BeginsWith}
use Rattle.gix_refspec_text.specs.Texts.Name.{HasStar}
use Rattle.gix_refspec_text.specs.Texts.Bytes.{head}
use Rattle.gix_refspec_text.specs.Specs.Reading.{Reading}
use Rattle.gix_refspec_text.specs.Specs.Grammar.{IsPositive, Reads}
use Rattle.gix_refspec_text.specs.Specs.Meaning.{meaning_of, printed}
use Rattle.gix_refspec_text.specs.Matching.Side.{object, HasKind}
use Rattle.gix_refspec_text.specs.Matching.Match.{Ref, HasName, Matches, Takes}
use Rattle.gix_refspec_text.specs.Matching.Prefix.{IsAsked, IsExpansion}
use Rattle.gix_refspec_text.specs.Laws.Covering.{HasCoveringSource}
use Rattle.gix_refspec_match.specs.Matching.Lists.{IsJoinedFrom}
use Rattle.gix_refspec_match.specs.Matching.Mappings.{Source, name, id, Mapped, HasPair, IsSourceExcluded}
use Rattle.gix_refspec_match.specs.Matching.Hits.{Ends, AreForwardEnds, AreBackwardEnds, IsFilled, AreForward}
use Rattle.gix_refspec_match.specs.Matching.Hits.{AreBackward, AreKeptForward, AreKeptBackward}

-- ---- both directions

-- the source of a mapping is the name of one of the refs
abbrev pub IsSourceAmong : List Ref → Source → Type 0
IsSourceAmong refs (name n) = HasName refs n
IsSourceAmong refs (id i) = ⊥

-- the destination of a mapping is the name of one of the refs
abbrev pub IsDestinationAmong : List Ref → Option (List ℕ) → Type 0
IsDestinationAmong refs None = ⊥
IsDestinationAmong refs (Some n) = HasName refs n

-- the reading goes both ways: if it is positive and has two sides, both have a star, or both begin `refs/`.
-- `main:refs/x/main` doesn't: it maps `refs/tags/main` to `refs/x/main`, but `refs/x/main` back to `refs/heads/main`
abbrev pub GoesBothWays : Reading → Type 0
GoesBothWays r = IsPositive r.mode → (s d : List ℕ) → r.source ≡ Some s → r.destination ≡ Some d
    → (HasStar s × HasStar d) ⊎ (BeginsWith (codes "refs/") s × BeginsWith (codes "refs/") d)

-- if each reading goes both ways: a pair is kept from left to right over the refs A, with its destination among the
-- refs B, exactly if it is kept from right to left over B, with its source among A. So both directions exclude the
-- same. Only the source and the destination of `pair` count
abbrev pub Transpose : List Reading → List Ref → List Ref → Type 0
Transpose g A B =
    AllByRecursion GoesBothWays g → (l m : List Mapped) → AreKeptForward g A l → AreKeptBackward g B m → (pair : Mapped)
    → (HasPair l pair × IsDestinationAmong B pair.destination) ↔ (HasPair m pair × IsSourceAmong A pair.source)

-- ---- when a pair is kept

-- a side takes the ref r, whose name is n, and the other side becomes far
pub record IsPaired (Taken : List ℕ → Ref → Option (List ℕ) → Type 0) (ends : Ends) (n : List ℕ) (far : Option (List ℕ))
    (r : Ref) : Type 0 where
  pub word : Option (List ℕ)
  pub name : r.name ≡ n
  pub takes : Taken ends.near r word
  pub becomes : IsFilled ends.far word far

-- the reading takes one of the items, whose name is n, and its other side becomes far
pub record PairsItem (HasEnds : Reading → Ends → Type 0) (Taken : List ℕ → Ref → Option (List ℕ) → Type 0)
    (items : List Ref) (n : List ℕ) (far : Option (List ℕ)) (r : Reading) : Type 0 where
  pub ends : Ends
  pub has : HasEnds r ends
  pub one : Any (IsPaired Taken ends n far) items

-- the reading asks for the object with this id, and its destination becomes far
pub record PairsId (bytes : List ℕ) (far : Option (List ℕ)) (r : Reading) : Type 0 where
  pub positive : IsPositive r.mode
  pub text : List ℕ
  pub side : r.source ≡ Some text
  pub object : HasKind text (object bytes)
  pub becomes : IsFilled r.destination None far

-- from left to right the reading makes the pair of this source and this destination
abbrev pub MakesForward : List Ref → Source → Option (List ℕ) → Reading → Type 0
MakesForward items (name n) far r = PairsItem AreForwardEnds (Takes items) items n far r
MakesForward items (id bytes) far r = PairsId bytes far r

-- from right to left the reading makes it: the destination is the name of an item, and the source a name
abbrev pub MakesBackward : List Ref → Source → Option (List ℕ) → Reading → Type 0
MakesBackward items (name n) (Some d) r = PairsItem AreBackwardEnds Matches items d (Some n) r
MakesBackward items (name n) None r = ⊥
MakesBackward items (id bytes) far r = ⊥

-- a pair is kept exactly if some reading makes it, and none excludes its source
pub record KeptExactly (g : List Reading) (items : List Ref) : Type 0 where
  pub forward : (kept : List Mapped) → AreKeptForward g items kept → (pair : Mapped)
      → HasPair kept pair ↔ (Any (MakesForward items pair.source pair.destination) g
      × ¬ (IsSourceExcluded g pair.source))
  pub backward : (kept : List Mapped) → AreKeptBackward g items kept → (pair : Mapped)
      → HasPair kept pair ↔ (Any (MakesBackward items pair.source pair.destination) g
      × ¬ (IsSourceExcluded g pair.source))

-- the mapping is in the list, none before it has its pair, and no reading excludes its source
pub record IsFirstOfPair (g : List Reading) (l : List Mapped) (m : Mapped) : Type 0 where
  pub before : List Mapped
  pub after : List Mapped
  pub here : l ≡ before ++ (m ∷ after)
  pub first : ¬ (HasPair before m)
  pub included : ¬ (IsSourceExcluded g m.source)

-- of the mappings with one pair only the first is kept, unchanged, if no reading excludes its source
pub record FirstStays (g : List Reading) (items : List Ref) : Type 0 where
  pub forward : (all kept : List Mapped) → AreForward g items all → AreKeptForward g items kept → (m : Mapped)
      → Contains kept m ↔ IsFirstOfPair g all m
  pub backward : (all kept : List Mapped) → AreBackward g items all → AreKeptBackward g items kept → (m : Mapped)
      → Contains kept m ↔ IsFirstOfPair g all m

-- no kept mapping, in either direction, has a source that some reading excludes; and none excludes an id
pub record NothingExcluded (g : List Reading) (items : List Ref) : Type 0 where
  pub names : (list : List Mapped) → AreKeptForward g items list ⊎ AreKeptBackward g items list
      → AllByRecursion (λ m. ¬ (IsSourceExcluded g m.source)) list
  pub ids : (bytes : List ℕ) → ¬ (IsSourceExcluded g (id bytes))

-- ---- groups that map alike

-- the canonical text of the fetch r reads as the fetch q: that of `+main` is `main`, which isn't forced. Pushes are
-- excluded: the canonical text of `main` is `main:main`, which has a destination although `main` has none
pub record ReadsAgainAs (r q : Reading) : Type 0 where
  pub fetch : r.operation ≡ Fetch
  pub text : List ℕ
  pub is : printed r ≡ Some text
  pub reads : Reads Fetch text q

-- each reading of h is that of the canonical text of the reading of g with the same index
abbrev pub AreReadAgain : List Reading → List Reading → Type 0
AreReadAgain g h = AllZip ReadsAgainAs g h

-- both groups keep the same mappings over the items, from left to right and from right to left
pub record MapAlike (g h : List Reading) (items : List Ref) : Type 0 where
  pub forward : (kept : List Mapped) → AreKeptForward g items kept ↔ AreKeptForward h items kept
  pub backward : (kept : List Mapped) → AreKeptBackward g items kept ↔ AreKeptBackward h items kept

-- a group of fetches and the group read from its canonical texts map alike
abbrev pub FetchGroupReadsBack : List Reading → List Reading → List Ref → Type 0
FetchGroupReadsBack g h items = AreReadAgain g h → MapAlike g h items

-- the readings are fetches with the same meaning: only the force of one without a destination may differ. Pushes are
-- excluded: `main` and `main:main` mean the same, and only the second has a destination
pub record FetchTheSame (r q : Reading) : Type 0 where
  pub fetch : r.operation ≡ Fetch
  pub same : meaning_of r ≡ meaning_of q

-- groups of fetches with the same meanings, in order, map alike
abbrev pub EqualGroups : List Reading → List Reading → List Ref → Type 0
EqualGroups g h items = AllZip FetchTheSame g h → MapAlike g h items

-- each reading is a fetch
abbrev pub AreFetches : List Reading → Type 0
AreFetches g = AllByRecursion (λ r. r.operation ≡ Fetch) g

-- ---- what covers the sources of a group

-- the name begins with one of the entries
abbrev pub BeginsWithOne : List (List ℕ) → List ℕ → Type 0
BeginsWithOne entries n = Any (λ entry. BeginsWith entry n) entries

-- the name begins with an entry of the expansion of the reading, which is then positive
pub record IsCoveredBy (n : List ℕ) (r : Reading) : Type 0 where
  pub entries : List (List ℕ)
  pub expansion : IsExpansion r entries
  pub one : BeginsWithOne entries n

-- the entries are the expansions of the readings, one after the other
abbrev pub AreExpansions : List Reading → List (List ℕ) → Type 0
AreExpansions g entries = IsJoinedFrom (λ k r list. IsExpansion r list) 0 g entries

-- the expansion of the reading covers the name n, if the reading takes it: the source is covering, or the reading is a
-- fetch of `HEAD` and n is `HEAD`
abbrev pub AsksFor : Reading → List ℕ → Type 0
AsksFor r n = HasCoveringSource r ⊎ ((r.operation ≡ Fetch) × IsAsked r head × (n ≡ head))

-- the spec of the mapping is in the group, and P holds of its reading
abbrev pub AtSpec : List Reading → Mapped → (Reading → Type 0) → Type 0
AtSpec g m P = (r : Reading) × (slice_get g m.spec ≡ Some r) × P r

-- for each mapping kept from left to right whose source is a name, P holds of the reading of its spec and this name
abbrev pub EachSource : List Reading → List Ref → (Reading → List ℕ → Type 0) → Type 0
EachSource g items P = (kept : List Mapped) → AreKeptForward g items kept
    → AllByRecursion (λ m. (n : List ℕ) → m.source ≡ name n → AtSpec g m (λ r. P r n)) kept

-- each name that a spec maps from left to right begins with an entry of the expansion of this spec, if that is to cover
-- the name, whatever the other specs are
abbrev pub Cover : List Reading → List Ref → Type 0
Cover g items = EachSource g items (λ r n. AsksFor r n → IsCoveredBy n r)

-- and so with an entry of the expansion of the group
abbrev pub CoverTogether : List Reading → List Ref → Type 0
CoverTogether g items = (entries : List (List ℕ)) → AreExpansions g entries
    → EachSource g items (λ r n. AsksFor r n → BeginsWithOne entries n)
