-- The hits of matchers. Only private functions cite these words.
use Rattle.std.specs.Prelude.{◌≡◌, ◌⊎◌, ℕ, List, ◌++◌, Some, map}
use Rattle.std.specs.List.{AllByRecursion, slice_get}
use Rattle.gix_refspec_match.specs.declared.hits.Hit.{Hit as DeclaredHit}
use Rattle.gix_refspec_match.specs.declared.matcher.Candidates.{Candidates}
use Rattle.gix_refspec_match.specs.declared.matcher.Matcher.{Matcher}
use Rattle.gix_refspec_match.specs.declared.matcher.Matchers.{Matchers}
use Rattle.gix_refspec_text.specs.Matching.Side.{SideKind}
use Rattle.gix_refspec_text.specs.Matching.Match.{Ref}
use Rattle.gix_refspec_text.specs.Private.SideViews.{kind_of_side}
use Rattle.gix_refspec_match.specs.Matching.Lists.{IsMadeFrom, IsJoinedFrom}
use Rattle.gix_refspec_match.specs.Private.Matchers.{HasNoIdNeedle}
use Rattle.gix_refspec_match.specs.Private.Needles.{IsMatched, IsTaken}
use Rattle.gix_refspec_match.specs.Private.Part.{IsPart, place_among}

-- the hit of the matcher at index k on the item at index j
abbrev pub hit_at : ℕ → ℕ → DeclaredHit
hit_at k j = record { matcher = k; item = j }

-- the ref at index j is taken by the needle of the matcher at index k, which has the kind
abbrev pub IsFound : Candidates → List Ref → SideKind → ℕ → ℕ → Ref → DeclaredHit → Type 0
IsFound which items kind k j r hit = IsTaken which items kind r × (hit ≡ hit_at k j)

-- the hits of that matcher, in the order of the items
abbrev pub AreFound : Candidates → List Ref → ℕ → Matcher → List DeclaredHit → Type 0
AreFound which items k m hits = IsMadeFrom (IsFound which items (kind_of_side m.needle) k) 0 items hits

-- the hits of all matchers
abbrev pub AreHitsOf : Matchers → List Ref → List DeclaredHit → Type 0
AreHitsOf ms items hits = IsJoinedFrom (AreFound ms.candidates items) 0 ms.list.items hits

-- those of one more are behind the others
pub record AddsFound (which : Candidates) (items : List Ref) (kind : SideKind) (k : ℕ) (old new : List DeclaredHit) :
    Type 0 where
  pub made : List DeclaredHit
  pub are : IsMadeFrom (IsFound which items kind k) 0 items made
  pub all : new ≡ old ++ made

-- the hit, whose item has an index among others, with its index among all
abbrev pub turned : List ℕ → DeclaredHit → DeclaredHit
turned indexes h = hit_at h.matcher (place_among indexes h.item)

-- the hits on the items without some that have the name of an earlier one
pub record AreHitsOnce (ms : Matchers) (items : List Ref) (hits : List DeclaredHit) : Type 0 where
  pub plain : HasNoIdNeedle ms
  pub part : List Ref
  pub indexes : List ℕ
  pub is : IsPart items part indexes
  pub found : List DeclaredHit
  pub are : AreHitsOf ms part found
  pub all : hits ≡ map (turned indexes) found

abbrev pub AreHitsAmong : Matchers → List Ref → List DeclaredHit → Type 0
AreHitsAmong ms items hits = AreHitsOf ms items hits ⊎ AreHitsOnce ms items hits

-- there are a matcher and an item, and they match
pub record IsSound (ms : List Matcher) (items : List Ref) (h : DeclaredHit) : Type 0 where
  pub matcher : Matcher
  pub is_matcher : slice_get ms h.matcher ≡ Some matcher
  pub ref : Ref
  pub is_ref : slice_get items h.item ≡ Some ref
  pub matched : IsMatched (kind_of_side matcher.needle) ref

abbrev pub AreSound : List Matcher → List Ref → List DeclaredHit → Type 0
AreSound ms items hits = AllByRecursion (IsSound ms items) hits
