-- Which local refs a pruning fetch should delete, by git-fetch(1) under `--prune`: those that "no longer exist on the
-- remote".
-- That a ref is kept of which some source is excluded, and that an object may be written at any time, isn't in the
-- manual.
-- Git compares the sides of a spec without a star as they are written, and excludes none of its sources, so it deletes
-- more.
use Rattle.std.specs.Prelude.{◌≡◌, ℕ, List, [], Option, None, Some, MatchOption, take}
use Rattle.std.specs.List.{AllZip, Contains, slice_get}
use Rattle.gix_refspec_text.specs.Specs.Reading.{Reading}
use Rattle.gix_refspec_text.specs.Specs.Grammar.{IsPositive}
use Rattle.gix_refspec_text.specs.Matching.Side.{HasKind, object}
use Rattle.gix_refspec_text.specs.Matching.Match.{Ref, HasName, Matches}
use Rattle.gix_refspec_match.specs.Matching.Lists.{IsMadeFrom}
use Rattle.gix_refspec_match.specs.Matching.Mappings.{Mapped, IsExcluded, IsExcludedBy}
use Rattle.gix_refspec_match.specs.Matching.Hits.{AreKeptForward}
use Rattle.gix_refspec_plan.specs.Matching.Plan.{IsCompleted}

-- a ref of this name, whatever it points to
abbrev pub ref_named : List ℕ → Ref
ref_named n = record { name = n; target = []; object = None }

-- the spec can write the local ref n; for a pattern, with this word
pub record CanWrite (r : Reading) (n : List ℕ) (word : Option (List ℕ)) : Type 0 where
  pub positive : IsPositive r.mode
  pub completed : Reading
  pub is : IsCompleted r completed
  pub destination : List ℕ
  pub has : completed.destination ≡ Some destination
  pub matches : Matches destination (ref_named n) word

-- and from the ref s of the remote: the one with that word, the full name, or one of the six candidates of a partial
-- name
pub record CanWriteFrom (r : Reading) (n s : List ℕ) : Type 0 where
  pub word : Option (List ℕ)
  pub writes : CanWrite r n word
  pub source : List ℕ
  pub is : r.source ≡ Some source
  pub matches : Matches source (ref_named s) word

-- or from an object
pub record CanWriteObject (r : Reading) (n : List ℕ) : Type 0 where
  pub writes : CanWrite r n None
  pub source : List ℕ
  pub is : r.source ≡ Some source
  pub bytes : List ℕ
  pub asks : HasKind source (object bytes)

-- some spec of the group can write n; from s; from an object
abbrev pub IsWritable : List Reading → List ℕ → Type 0
IsWritable g n = (r : Reading) × (word : Option (List ℕ)) × Contains g r × CanWrite r n word

abbrev pub IsSourceOf : List Reading → List ℕ → List ℕ → Type 0
IsSourceOf g n s = (r : Reading) × Contains g r × CanWriteFrom r n s

abbrev pub IsWritableFromObject : List Reading → List ℕ → Type 0
IsWritableFromObject g n = (r : Reading) × Contains g r × CanWriteObject r n

-- the local ref n is stale: none of the refs from which it could be written is on the remote, and none is excluded
pub record IsStale (g : List Reading) (remote : List Ref) (n : List ℕ) : Type 0 where
  pub writable : IsWritable g n
  pub no_object : ¬ (IsWritableFromObject g n)
  pub absent : (s : List ℕ) → IsSourceOf g n s → ¬ (HasName remote s)
  pub included : (s : List ℕ) → IsSourceOf g n s → ¬ (IsExcluded g s)

-- a fetch of the group writes n
pub record IsFetched (g : List Reading) (remote : List Ref) (n : List ℕ) : Type 0 where
  pub completed : List Reading
  pub are : AllZip IsCompleted g completed
  pub mapped : List Mapped
  pub kept : AreKeptForward completed remote mapped
  pub mapping : Mapped
  pub has : Contains mapped mapping
  pub destination : mapping.destination ≡ Some n

-- n looks stale, as no fetch writes it, but one of the refs from which it could be written is excluded by the spec at
-- index k
pub record IsKeptBy (g : List Reading) (remote : List Ref) (n : List ℕ) (k : ℕ) : Type 0 where
  pub unwritten : ¬ (IsFetched g remote n)
  pub source : List ℕ
  pub is_source : IsSourceOf g n source
  pub negative : Reading
  pub at : slice_get g k ≡ Some negative
  pub excludes : IsExcludedBy source negative

-- a local ref that looks stale: its index, and the spec that keeps it, if one does
pub record Found : Type 0 where
  pub item : ℕ
  pub kept_by : Option ℕ

-- the local refs that are stale or kept, in order; of those of one name the first
abbrev pub AreStale : List Reading → List Ref → List Ref → List Found → Type 0
AreStale g remote locals found =
    IsMadeFrom (λ k local f. (f.item ≡ k) × ¬ (HasName (take k locals) local.name)
    × MatchOption f.kept_by (IsStale g remote local.name) (IsKeptBy g remote local.name)) 0 locals found
