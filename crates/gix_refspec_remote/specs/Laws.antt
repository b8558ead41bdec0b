-- Laws of upstreams. They follow from the definitions, and add no rule.
use Rattle.std.specs.Prelude.{◌≡◌, ◌⊎◌, ◌↔◌, ℕ, List, Some}
use Rattle.std.specs.List.{slice_get}
use Rattle.gix_refspec_text.specs.Texts.Name.{IsSplit}
use Rattle.gix_refspec_text.specs.Specs.Reading.{Reading}
use Rattle.gix_refspec_text.specs.Specs.Grammar.{IsPositive}
use Rattle.gix_refspec_text.specs.Matching.Side.{HasKind, full_name}
use Rattle.gix_refspec_match.specs.Matching.Mappings.{Mapped, name}
use Rattle.gix_refspec_match.specs.Matching.Single.{MapsName}
use Rattle.gix_refspec_remote.specs.Upstream.{AsksForExcluded, HasAt, HasNo, IsFirstAt, IsUpstream, Stores, StoresSome}
use Rattle.gix_refspec_remote.specs.Upstream.{tracked}

-- both are full names
abbrev pub AreFullNames : List ℕ → List ℕ → Type 0
AreFullNames s d = HasKind s (full_name s) × HasKind d (full_name d)

-- both are patterns
pub record ArePatterns (s d : List ℕ) : Type 0 where
  pub before : List ℕ
  pub after : List ℕ
  pub source : IsSplit before after s
  pub front : List ℕ
  pub back : List ℕ
  pub destination : IsSplit front back d

-- the spec has two full names or two patterns as its sides
pub record HasFullSides (r : Reading) : Type 0 where
  pub source : List ℕ
  pub from : r.source ≡ Some source
  pub destination : List ℕ
  pub to : r.destination ≡ Some destination
  pub alike : AreFullNames source destination ⊎ ArePatterns source destination

-- the mapping of one ref to another
abbrev pub mapping_to : List ℕ → List ℕ → Mapped
mapping_to n d = record { item = Some 0; source = name n; destination = Some d; spec = 0 }

-- a spec with such sides stores a merged ref exactly where it alone maps it, whatever the ref points to
abbrev pub StoredAsMapped : List ℕ → Reading → Type 0
StoredAsMapped n r = HasFullSides r → ((d : List ℕ) → Stores n d r → MapsName n r (mapping_to n d))
    × ((m : Mapped) → MapsName n r m → StoresSome n r)

-- the spec alone maps the merged ref n to d
abbrev pub MapsTo : List ℕ → List ℕ → Reading → Type 0
MapsTo n d r = MapsName n r (mapping_to n d)

-- it maps it to some ref
abbrev pub MapsToSome : List ℕ → Reading → Type 0
MapsToSome n r = (d : List ℕ) × MapsTo n d r

-- each positive spec of the group has such sides
abbrev pub HaveFullSides : List Reading → Type 0
HaveFullSides g = (k : ℕ) (r : Reading) → slice_get g k ≡ Some r → IsPositive r.mode → HasFullSides r

-- of a group of such specs, where none is asked for an excluded ref, the upstream is what the first spec that maps the
-- merged ref maps it to
abbrev pub TrackedAsMapped : List ℕ → List Reading → Type 0
TrackedAsMapped n g = HaveFullSides g → HasNo g (AsksForExcluded g n) → (d : List ℕ) (k : ℕ)
    → IsUpstream g n (tracked d k) ↔ (IsFirstAt g k (MapsToSome n) × HasAt g k (MapsTo n d))
