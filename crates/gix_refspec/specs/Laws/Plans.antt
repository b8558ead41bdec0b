-- Laws of plans, for a caller that writes out the result of a validation: no two mappings and no two fixes are written
-- alike, and nothing contains a byte below 32, a control character of ASCII other than DEL. They follow from the
-- definitions in Grammar, Hits and Validation, and add no rule.
use Rattle.std.specs.Prelude.{◌≡◌, ◌≢◌, ◌<◌, ℕ, List, [], ◌∷◌, Option, None, Some}
use Rattle.std.specs.List.{AllByRecursion}
use Rattle.gix_refspec_text.specs.declared.parsing.Operation.TheVariants.{Fetch}
use Rattle.gix_refspec_text.specs.Texts.Words.{Lacks}
use Rattle.gix_refspec_text.specs.Texts.ObjectId.{lower_of}
use Rattle.gix_refspec_text.specs.Specs.Reading.{Reading}
use Rattle.gix_refspec_text.specs.Specs.Grammar.{Reads}
use Rattle.gix_refspec_text.specs.Specs.Meaning.{printed}
use Rattle.gix_refspec_text.specs.Matching.Match.{Ref}
use Rattle.gix_refspec_match.specs.Matching.Mappings.{Source, name, id, Mapped, AreApart}
use Rattle.gix_refspec_match.specs.Matching.Hits.{AreKeptForward}
use Rattle.gix_refspec.specs.Matching.Validation.{ForwardIndexes, Removed, IsValidated, HaveDistinctDestinations}

-- ---- no duplicates

-- mappings with the same spec index and the same item index, or both without an item, have the same source
abbrev pub HaveOneSource : Mapped → Mapped → Type 0
HaveOneSource m n = m.spec ≡ n.spec → m.item ≡ n.item → m.source ≡ n.source

-- so do any two of the mappings
abbrev pub HaveSourcesByIndex : List Mapped → Type 0
HaveSourcesByIndex [] = Unit {0}
HaveSourcesByIndex (m ∷ l) = AllByRecursion (HaveOneSource m) l × HaveSourcesByIndex l

-- no two of the fixes have the same destination
abbrev pub AreFixesApart : List Removed → Type 0
AreFixesApart [] = Unit {0}
AreFixesApart (f ∷ fixes) = AllByRecursion (λ h. h.destination ≢ f.destination) fixes × AreFixesApart fixes

-- the remaining mappings have valid indexes, which determine their sources; no two are the same pair, and no two have
-- the same destination; nor do two fixes
pub record AreToldApart (g : List Reading) (items : List Ref) (rest : List Mapped) (fixes : List Removed) : Type 0 where
  pub indexes : AllByRecursion (ForwardIndexes g items) rest
  pub starts : HaveSourcesByIndex rest
  pub pairs : AreApart rest
  pub destinations : HaveDistinctDestinations rest
  pub fixed : AreFixesApart fixes

-- that holds after a validation of what was matched among items, for all items and specs
abbrev pub PlansApart : Type 0
PlansApart = (g : List Reading) (items : List Ref) (l rest : List Mapped) (fixes : List Removed)
    → AreKeptForward g items l → IsValidated g l rest fixes → AreToldApart g items rest fixes

-- ---- control characters: bytes below 32

-- an optional text doesn't contain the byte b
abbrev pub LacksIn : ℕ → Option (List ℕ) → Type 0
LacksIn b None = Unit {0}
LacksIn b (Some d) = Lacks b d

-- nor does a side of the reading
abbrev pub SidesLack : ℕ → Reading → Type 0
SidesLack b r = LacksIn b r.source × LacksIn b r.destination

-- nor does the source of a mapping, as it is printed
abbrev pub SourceLacks : ℕ → Source → Type 0
SourceLacks b (name n) = Lacks b n
SourceLacks b (id i) = Lacks b (lower_of i)

-- nor does a mapping
abbrev pub MappedLacks : ℕ → Mapped → Type 0
MappedLacks b m = SourceLacks b m.source × LacksIn b m.destination

-- neither a side nor the canonical text of a fetch contains a byte below 32; if no side of a group and no name of an
-- item contains such a byte, no mapping does
pub record NoControlCharacter : Type 0 where
  pub sides : (b : ℕ) (text : List ℕ) (r : Reading) → b < 32 → Reads Fetch text r → SidesLack b r
  pub texts : (b : ℕ) (text : List ℕ) (r : Reading) (canonical : List ℕ) → b < 32 → Reads Fetch text r
      → printed r ≡ Some canonical → Lacks b canonical
  pub mapped : (b : ℕ) (g : List Reading) (items : List Ref) (l : List Mapped) → b < 32 → AllByRecursion (SidesLack b) g
      → AllByRecursion (λ r. Lacks b r.name) items → AreKeptForward g items l → AllByRecursion (MappedLacks b) l
