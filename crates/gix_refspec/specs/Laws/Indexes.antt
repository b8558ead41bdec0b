-- Laws of single mappings: which spec and item made them, by their indexes, and which of them remain after a check.
-- They follow from the definitions in Hits, Validation and RefNames, and add no rule.
use Rattle.std.specs.Prelude.{◌≡◌, ◌↔◌, ℕ, List, Option, None, Some}
use Rattle.std.specs.List.{AllByRecursion, Contains, slice_get}
use Rattle.gix_refspec_text.specs.Specs.Reading.{Reading}
use Rattle.gix_refspec_text.specs.Matching.Match.{Ref, Matches, Takes}
use Rattle.gix_refspec_match.specs.Matching.Mappings.{Source, name, id, Mapped}
use Rattle.gix_refspec_match.specs.Matching.Hits.{Ends, AreForwardEnds, AreBackwardEnds, AreKeptForward}
use Rattle.gix_refspec_match.specs.Matching.Hits.{AreKeptBackward}
use Rattle.gix_refspec.specs.Laws.Matching.{IsPaired, PairsId, AtSpec}
use Rattle.gix_refspec.specs.Matching.Validation.{Removed, Survives, IsValidated}
use Rattle.gix_refspec.specs.Matching.RefNames.{LeftOut, HasRefNames, KeepsRefNames}

-- the reading takes the item at this index, whose name is n, and its other side becomes far
pub record TakesAt (HasEnds : Reading → Ends → Type 0) (Taken : List ℕ → Ref → Option (List ℕ) → Type 0)
    (items : List Ref) (item : Option ℕ) (n : List ℕ) (far : Option (List ℕ)) (r : Reading) : Type 0 where
  pub index : ℕ
  pub is : item ≡ Some index
  pub ref : Ref
  pub stands : slice_get items index ≡ Some ref
  pub ends : Ends
  pub has : HasEnds r ends
  pub paired : IsPaired Taken ends n far ref

-- from left to right the reading makes the pair of this source and this destination, of the item at this index, or,
-- without an item, of the id that it asks for
abbrev pub MakesForwardOf : List Ref → Option ℕ → Source → Option (List ℕ) → Reading → Type 0
MakesForwardOf items item (name n) far r = TakesAt AreForwardEnds (Takes items) items item n far r
MakesForwardOf items item (id bytes) far r = (item ≡ None) × PairsId bytes far r

-- from right to left it makes the pair of the item at this index, whose name is the destination
abbrev pub MakesBackwardOf : List Ref → Option ℕ → Source → Option (List ℕ) → Reading → Type 0
MakesBackwardOf items item (name n) (Some d) r = TakesAt AreBackwardEnds Matches items item d (Some n) r
MakesBackwardOf items item (name n) None r = ⊥
MakesBackwardOf items item (id bytes) far r = ⊥

-- each kept mapping is what the spec at its index makes of the item at its index
pub record MadeAtIndexes (g : List Reading) (items : List Ref) : Type 0 where
  pub forward : (kept : List Mapped) → AreKeptForward g items kept
      → AllByRecursion (λ m. AtSpec g m (MakesForwardOf items m.item m.source m.destination)) kept
  pub backward : (kept : List Mapped) → AreKeptBackward g items kept
      → AllByRecursion (λ m. AtSpec g m (MakesBackwardOf items m.item m.source m.destination)) kept

-- a mapping of the list remains after a validation exactly if it survives, and after a check of names exactly if
-- neither side is an invalid ref name
pub record RemainsExactly (g : List Reading) (l : List Mapped) : Type 0 where
  pub validated : (rest : List Mapped) (fixes : List Removed) → IsValidated g l rest fixes → (m : Mapped)
      → Contains rest m ↔ (Contains l m × Survives m)
  pub named : (rest : List Mapped) (out : List LeftOut) → KeepsRefNames l rest out → (m : Mapped) → Contains rest m
      ↔ (Contains l m × HasRefNames m)
