-- The matchers of a group, and specs with the sides of an earlier one. Only private functions cite these words.
use Rattle.std.specs.Prelude.{◌≡◌, ◌⊎◌, ℕ, Bool, List, [], ◌∷◌, Option, Some, IsSome}
use Rattle.std.specs.List.{AllByRecursion}
use Rattle.gix_refspec_match.specs.declared.matcher.Candidates.{Candidates}
use Rattle.gix_refspec_match.specs.declared.matcher.Candidates.TheVariants.{First, All}
use Rattle.gix_refspec_match.specs.declared.matcher.Matcher.{Matcher}
use Rattle.gix_refspec_match.specs.declared.matcher.Matchers.{Matchers}
use Rattle.gix_refspec_match.specs.declared.matcher.ObjectSpec.{ObjectSpec}
use Rattle.gix_refspec_match.specs.declared.matcher.Sides.{Sides}
use Rattle.gix_refspec_text.specs.Texts.ObjectId.{id_bytes}
use Rattle.gix_refspec_text.specs.Specs.Reading.{Reading}
use Rattle.gix_refspec_text.specs.Specs.Grammar.{IsPositive}
use Rattle.gix_refspec_text.specs.Matching.Side.{SideKind, HasKind, pattern, full_name, object, partial}
use Rattle.gix_refspec_text.specs.Matching.Match.{Ref, Matches, Takes}
use Rattle.gix_refspec_text.specs.Private.SideViews.{kind_of_side}
use Rattle.gix_refspec_match.specs.Matching.Lists.{IsJoinedFrom, IsMadeFrom}
use Rattle.gix_refspec_match.specs.Matching.Hits.{Ends, AreForwardEnds, AreBackwardEnds}
use Rattle.gix_refspec_match.specs.Private.EqualSpecs.{FlagsEqual}
use Rattle.gix_refspec_match.specs.Private.Kept.{IsFlagged}
use Rattle.gix_refspec_match.specs.Private.Needles.{HasSideKind}

-- a positive reading with a source has sides of these kinds
pub record HaveSides (r : Reading) (sides : Sides) : Type 0 where
  pub positive : IsPositive r.mode
  pub source : HasSideKind r.source (Some sides.source)
  pub destination : HasSideKind r.destination sides.destination

-- the reading isn't positive, or has no source
abbrev pub HasNoSides : Reading → Type 0
HasNoSides r = IsPositive r.mode → IsSome r.source → ⊥

-- the ends of a reading: from left to right, where a partial name takes its first candidate, the source is
-- matched, and from right to left the destination
abbrev pub HasEnds : Candidates → Reading → Ends → Type 0
HasEnds First r ends = AreForwardEnds r ends
HasEnds All r ends = AreBackwardEnds r ends

-- which refs an end takes among the items
abbrev pub TakesIn : Candidates → List Ref → List ℕ → Ref → Option (List ℕ) → Type 0
TakesIn First items x r word = Takes items x r word
TakesIn All items x r word = Matches x r word

-- the ends have the kinds of the matcher
pub record HaveKinds (ends : Ends) (m : Matcher) : Type 0 where
  pub near : HasKind ends.near (kind_of_side m.needle)
  pub far : HasSideKind ends.far m.other

-- the matcher is that of the reading at index k, which isn't flagged
pub record IsMatcherOf (which : Candidates) (flags : List Bool) (k : ℕ) (r : Reading) (m : Matcher) : Type 0 where
  pub unflagged : ¬ (IsFlagged flags k)
  pub ends : Ends
  pub has : HasEnds which r ends
  pub kinds : HaveKinds ends m
  pub spec : m.spec_index ≡ k

-- the matcher of the reading at index k, and none where that is positive and flagged, or has no ends
abbrev pub AreMatcherOf : Candidates → List Bool → ℕ → Reading → List Matcher → Type 0
AreMatcherOf which flags k r made =
    ((m : Matcher) × IsMatcherOf which flags k r m × (made ≡ m ∷ []))
    ⊎ (((IsFlagged flags k × IsPositive r.mode) ⊎ ((ends : Ends) → ¬ (HasEnds which r ends))) × (made ≡ []))

-- the matchers are those of the readings, but for some with the sides of an earlier one
pub record AreMatchersOf (which : Candidates) (g : List Reading) (ms : Matchers) : Type 0 where
  pub candidates : ms.candidates ≡ which
  pub flags : List Bool
  pub equal : FlagsEqual g flags
  pub made : IsJoinedFrom (AreMatcherOf which flags) 0 g ms.list.items

-- the reading is positive, and its source is the id with these bytes
pub record AsksForId (r : Reading) (bytes : List ℕ) : Type 0 where
  pub positive : IsPositive r.mode
  pub text : List ℕ
  pub side : r.source ≡ Some text
  pub kind : HasKind text (object bytes)

-- the reading at index k asks for the object
pub record IsObjectSpec (k : ℕ) (r : Reading) (o : ObjectSpec) : Type 0 where
  pub asks : AsksForId r (id_bytes o.id)
  pub destination : HasSideKind r.destination o.destination
  pub spec : o.spec_index ≡ k

-- the object of that reading, and none where it asks for no id
abbrev pub AreObjectOf : ℕ → Reading → List ObjectSpec → Type 0
AreObjectOf k r made =
    ((o : ObjectSpec) × IsObjectSpec k r o × (made ≡ o ∷ []))
    ⊎ (((bytes : List ℕ) → ¬ (AsksForId r bytes)) × (made ≡ []))

-- the objects that readings ask for
abbrev pub AreObjectsOf : List Reading → List ObjectSpec → Type 0
AreObjectsOf g os = IsJoinedFrom AreObjectOf 0 g os

-- no needle is an id
abbrev pub HasNoIdNeedle : Matchers → Type 0
HasNoIdNeedle ms = AllByRecursion (λ m. (id : List ℕ) → ¬ (kind_of_side m.needle ≡ object id)) ms.list.items

-- each matcher has another side
abbrev pub HaveOthers : List Matcher → Type 0
HaveOthers ms = AllByRecursion (λ m. IsSome m.other) ms

-- the kind is that of a name
abbrev pub IsNameKind : SideKind → Type 0
IsNameKind (pattern before after) = ⊥
IsNameKind (full_name x) = Unit {0}
IsNameKind (object id) = ⊥
IsNameKind (partial x) = Unit {0}

-- the matcher looks for the name that is the source of the positive reading at index k
pub record IsNamed (k : ℕ) (r : Reading) (m : Matcher) : Type 0 where
  pub positive : IsPositive r.mode
  pub source : List ℕ
  pub is : r.source ≡ Some source
  pub kind : HasKind source (kind_of_side m.needle)
  pub name : IsNameKind (kind_of_side m.needle)
  pub spec : m.spec_index ≡ k

-- the matchers of all such readings, in order
abbrev pub AreNamed : List Reading → List Matcher → Type 0
AreNamed g ms = IsMadeFrom IsNamed 0 g ms
