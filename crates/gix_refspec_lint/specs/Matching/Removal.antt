-- What a fetch does because of one value of a remote's configuration, besides its mappings. By git-fetch(1) under
-- `--prune`,
-- "configured remote-tracking branches" and `--no-tags`, and git-pull(1) under "default behaviour". That a value which
-- maps
-- nothing makes Git follow tags too, and that negative values don't count for refs of the command line, isn't in the
-- manual of
-- Git 2.39.
use Rattle.std.specs.Prelude.{◌≡◌, ◌⊎◌, ◌<◌, ℕ, zero, List, Option, Some, IsSome}
use Rattle.std.specs.List.{Any, slice_get}
use Rattle.gix_refspec_text.specs.Texts.Name.{HasOneStar}
use Rattle.gix_refspec_text.specs.Specs.Reading.{Reading}
use Rattle.gix_refspec_text.specs.Specs.Grammar.{IsPositive}
use Rattle.gix_refspec_text.specs.Matching.Match.{Ref}
use Rattle.gix_refspec_match.specs.Matching.Mappings.{Source}
use Rattle.gix_refspec.specs.Matching.RefNames.{IsRefName}
use Rattle.gix_refspec_plan.specs.Matching.Stale.{IsStale}
use Rattle.gix_refspec_lint.specs.Laws.Lint.{without}
use Rattle.gix_refspec_lint.specs.Matching.Lint.{AreValid, Fetches, Maps, MapsSoundly}

-- ---- pruning

-- the local ref n is stale by one of the two lists of values alone
abbrev pub IsStaleByOne : List Reading → List Reading → List Ref → List ℕ → Type 0
IsStaleByOne g h remote n = (IsStale g remote n × ¬ (IsStale h remote n))
    ⊎ (¬ (IsStale g remote n) × IsStale h remote n)

-- beside some refs of a remote with valid names, a pruning fetch by one list treats some local ref otherwise than by
-- the other
pub record PruneOtherwise (g h : List Reading) : Type 0 where
  pub remote : List Ref
  pub valid : AreValid remote
  pub local : List ℕ
  pub named : IsRefName local
  pub differ : IsStaleByOne g h remote local

-- and so than without the value at index k
abbrev pub Prunes : List Reading → ℕ → Type 0
Prunes g k = PruneOtherwise g (without k g)

-- ---- refs of the command line

-- over some refs with valid names, as those that are named on the command line, the value at index k maps one soundly
-- to a
-- destination, and no earlier value does
pub record Tracks (g : List Reading) (k : ℕ) : Type 0 where
  pub refs : List Ref
  pub valid : AreValid refs
  pub source : Source
  pub destination : List ℕ
  pub maps : MapsSoundly g refs k source (Some destination)
  pub first : (h : ℕ) → h < k → ¬ (Maps g refs h source (Some destination))

-- ---- tags

-- the value is positive and has a destination
abbrev pub HasDestination : Reading → Type 0
HasDestination r = IsPositive r.mode × IsSome r.destination

-- some value has one: then a fetch follows tags, if it isn't told otherwise
abbrev pub FollowsTags : List Reading → Type 0
FollowsTags g = Any HasDestination g

-- and without the value at index k none has
abbrev pub FollowsTagsBy : List Reading → ℕ → Type 0
FollowsTagsBy g k = FollowsTags g × ¬ (FollowsTags (without k g))

-- ---- what `git pull` merges where no ref is named to merge

-- the first value has no star, and fetches some ref or object
pub record MergesFirst (g : List Reading) : Type 0 where
  pub reading : Reading
  pub at : slice_get g zero ≡ Some reading
  pub plain : (x : List ℕ) → reading.source ≡ Some x → ¬ (HasOneStar x)
  pub refs : List Ref
  pub source : Source
  pub destination : Option (List ℕ)
  pub fetches : Fetches g refs zero source destination

-- the value at index k is the first, and that, or the one that is the first without it, is merged
abbrev pub IsFirst : List Reading → ℕ → Type 0
IsFirst g k = (k ≡ zero) × (MergesFirst g ⊎ MergesFirst (without k g))
