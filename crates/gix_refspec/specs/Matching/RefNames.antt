-- Mappings between valid ref names, which begin `refs/` and are names by git-check-ref-format(1). A fetch leaves out a
-- "funny ref", whose destination begins `refs/` and isn't a name; the manual of Git 2.39 doesn't mention that. That the
-- source is checked as well, and that `HEAD` is valid, are this project's own rules.
use Rattle.std.specs.Prelude.{◌≡◌, ◌≢◌, ◌⊎◌, ◌≤◌, ℕ, List, [], Option, Some, MatchOption, codes}
use Rattle.std.specs.List.{AllByRecursion}
use Rattle.gix_refspec.specs.declared.match_group.ref_names.InvalidSide.{InvalidSide}
use Rattle.gix_refspec.specs.declared.match_group.ref_names.InvalidSide.TheVariants as invalid
use Rattle.gix_refspec.specs.declared.match_group.ref_names.InvalidMapping.{InvalidMapping}
use Rattle.gix_refspec_text.specs.Texts.Bytes.{head, slash}
use Rattle.gix_refspec_text.specs.Texts.Words.{BeginsWith, ArePartsAt}
use Rattle.gix_refspec_text.specs.Texts.Name.{IsName}
use Rattle.gix_refspec_text.specs.Specs.Reading.{Reading}
use Rattle.gix_refspec_match.specs.Matching.Lists.{IsMadeFrom}
use Rattle.gix_refspec_text.specs.Matching.Match.{Ref}
use Rattle.gix_refspec_match.specs.Matching.Mappings.{Source, name, id, Mapped}
use Rattle.gix_refspec_match.specs.Views.Mapping.{mapped_of}
use Rattle.gix_refspec_match.specs.Matching.Hits.{AreKeptForward}
use Rattle.gix_refspec.specs.Matching.Validation.{IndexesFit, ForwardIndexes, IsValidated, HaveDistinctDestinations}
use Rattle.gix_refspec.specs.Matching.Validation.{Removed}

-- n is a valid ref name: it begins `refs/` and is a name, or it is `HEAD`
abbrev pub IsRefName : List ℕ → Type 0
IsRefName n = (BeginsWith (codes "refs/") n × IsName n) ⊎ (n ≡ head)

-- the source is an id, or a valid ref name
abbrev pub IsValidSource : Source → Type 0
IsValidSource (name n) = IsRefName n
IsValidSource (id i) = Unit {0}

-- the destination is missing, or a valid ref name
abbrev pub IsValidDestination : Option (List ℕ) → Type 0
IsValidDestination d = MatchOption d (Unit {0}) IsRefName

-- both sides of the mapping are valid
pub record HasRefNames (m : Mapped) : Type 0 where
  pub source : IsValidSource m.source
  pub destination : IsValidDestination m.destination

-- only this side of the mapping is invalid; or both are
abbrev pub IsInvalidAt : InvalidSide → Mapped → Type 0
IsInvalidAt invalid.Source m = ¬ (IsValidSource m.source) × IsValidDestination m.destination
IsInvalidAt invalid.Destination m = IsValidSource m.source × ¬ (IsValidDestination m.destination)
IsInvalidAt invalid.Both m = ¬ (IsValidSource m.source) × ¬ (IsValidDestination m.destination)

-- a mapping that was left out, and its invalid side
pub record LeftOut : Type 0 where
  pub mapping : Mapped
  pub side : InvalidSide

-- the declared type, as plain data
abbrev pub left_out_of : InvalidMapping → LeftOut
left_out_of bad = record { mapping = mapped_of bad.mapping; side = bad.side }

-- the mapping was left out, with its invalid side
pub record IsLeftOut (m : Mapped) (out : LeftOut) : Type 0 where
  pub same : out.mapping ≡ m
  pub bad : IsInvalidAt out.side m

-- out has the mappings of the list with an invalid side, in order
abbrev pub AreLeftOut : List Mapped → List LeftOut → Type 0
AreLeftOut l out = IsMadeFrom (λ k m made. IsLeftOut m made) 0 l out

-- rest has the mappings of the list without an invalid side, in order
abbrev pub HaveRefNames : List Mapped → List Mapped → Type 0
HaveRefNames l rest = IsMadeFrom (λ k m made. (made ≡ m) × HasRefNames m) 0 l rest

-- the list was split into these two
pub record KeepsRefNames (l rest : List Mapped) (out : List LeftOut) : Type 0 where
  pub named : HaveRefNames l rest
  pub others : AreLeftOut l out

-- ---- what follows

-- the name begins `refs/` or is `HEAD`, and as a path stays there: no component is empty or begins with a dot, as `..`
-- does, and no byte is a control character
pub record StaysAmongRefs (n : List ℕ) : Type 0 where
  pub below : BeginsWith (codes "refs/") n ⊎ (n ≡ head)
  pub components : (parts : List (List ℕ)) → ArePartsAt slash parts n
      → AllByRecursion (λ w. (w ≢ []) × ¬ (BeginsWith (codes ".") w)) parts
  pub bytes : AllByRecursion (λ b. (32 ≤ b) × (b ≢ 127)) n

-- a destination of the mapping is a valid ref name, and as a path stays among the refs
abbrev pub WritesRef : Mapped → Type 0
WritesRef m = (d : List ℕ) → m.destination ≡ Some d → IsRefName d × StaysAmongRefs d

-- if mappings are validated, and checked for names before or after, each destination is a ref; and if they came from
-- items, no two have the same destination. What the check of names keeps has its indexes unchanged
pub record WritesRefs (g : List Reading) (items : List Ref) : Type 0 where
  pub before : (l named rest : List Mapped) (out : List LeftOut) (fixes : List Removed) → KeepsRefNames l named out
      → IsValidated g named rest fixes → AllByRecursion WritesRef rest
      × (AreKeptForward g items l → HaveDistinctDestinations rest)
  pub after : (l rest named : List Mapped) (fixes : List Removed) (out : List LeftOut) → IsValidated g l rest fixes
      → KeepsRefNames rest named out → AllByRecursion WritesRef named
      × (AreKeptForward g items l → HaveDistinctDestinations named)
  pub fits : (l named : List Mapped) (out : List LeftOut) → KeepsRefNames l named out → IndexesFit g l
      → IndexesFit g named
  pub indexes : (l named : List Mapped) (out : List LeftOut) → KeepsRefNames l named out
      → AllByRecursion (ForwardIndexes g items) l → AllByRecursion (ForwardIndexes g items) named
