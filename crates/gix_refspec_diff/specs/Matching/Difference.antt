-- What two lists of fetch values of a remote do otherwise, whatever refs the remote has. By git-fetch(1) under
-- `<refspec>` and "configured remote-tracking branches", and git-pull(1) under "default behaviour".
use Rattle.std.specs.Prelude.{◌≡◌, ◌↔◌, ◌<◌, ℕ, zero, List, [], ◌∷◌, ◌++◌, map, Option, Some}
use Rattle.std.specs.List.{Any, slice_get}
use Rattle.gix_refspec_text.specs.Texts.Bytes.{head}
use Rattle.gix_refspec_text.specs.Texts.Name.{HasOneStar}
use Rattle.gix_refspec_text.specs.Specs.Reading.{Reading, fetched_alone}
use Rattle.gix_refspec_text.specs.Matching.Match.{Ref}
use Rattle.gix_refspec_match.specs.Matching.Lists.{IsMadeFrom}
use Rattle.gix_refspec_match.specs.Matching.Mappings.{Source}
use Rattle.gix_refspec_match.specs.Matching.Missing.{LacksSource}
use Rattle.gix_refspec_plan.specs.Matching.Stale.{ref_named}
use Rattle.gix_refspec_lint.specs.Matching.Lint.{AreValid, Fetches, LacksAt, Maps, MapsSoundly, refs_of}
use Rattle.gix_refspec_lint.specs.Matching.Removal.{FollowsTags}

-- ---- what a list of values does

-- the values of a remote as a fetch takes them: without any it fetches `HEAD`
abbrev pub or_head : List Reading → List Reading
or_head [] = fetched_alone head ∷ []
or_head (r ∷ g) = r ∷ g

-- over the refs some value fetches the source, to the destination or without one
abbrev pub FetchPair : List Reading → List Ref → Source → Option (List ℕ) → Type 0
FetchPair g refs s d = (k : ℕ) × Fetches g refs k s d

-- over the refs the value at index k does so, and no earlier one maps it
pub record FetchesFirst (g : List Reading) (refs : List Ref) (k : ℕ) (s : Source) (d : Option (List ℕ)) : Type 0 where
  pub fetches : Fetches g refs k s d
  pub first : (h : ℕ) → h < k → ¬ (Maps g refs h s d)

-- over the refs a source is missing, so that the fetch fails
abbrev pub LacksSome : List Reading → List Ref → Type 0
LacksSome g refs = Any (LacksSource refs) g

-- ---- what one list alone does

-- over the refs the value at index k of g is the first that fetches the pair, and no value of h fetches it
pub record FetchesAlone (g h : List Reading) (refs : List Ref) (k : ℕ) (s : Source) (d : Option (List ℕ)) : Type 0 where
  pub one : FetchesFirst g refs k s d
  pub other : ¬ (FetchPair h refs s d)

-- over the refs the value at index k lacks its source, and no earlier one does
pub record LacksFirst (g : List Reading) (refs : List Ref) (k : ℕ) : Type 0 where
  pub lacks : LacksAt g refs k
  pub first : (j : ℕ) → j < k → ¬ (LacksAt g refs j)

-- over some refs with valid names the value at index k of g is the first that lacks its source, and no value of h lacks
-- one: so the fetch fails by g alone
pub record LacksAlone (g h : List Reading) (k : ℕ) : Type 0 where
  pub refs : List Ref
  pub valid : AreValid refs
  pub one : LacksFirst g refs k
  pub other : ¬ (LacksSome h refs)

-- the indexes of these values, in order
abbrev pub AreLackedAlone : List Reading → List Reading → List ℕ → Type 0
AreLackedAlone g h lacked = IsMadeFrom (λ k r made. (made ≡ k) × LacksAlone g h k) 0 g lacked

-- an example of a pair: the index of a value, the source and the destination, and the other refs of a remote
pub record PairExample : Type 0 where
  pub spec : ℕ
  pub source : Source
  pub destination : Option (List ℕ)
  pub beside : List (List ℕ)

-- the refs of that remote
abbrev pub refs_in : PairExample → List Ref
refs_in e = refs_of e.source ++ map ref_named e.beside

-- over the refs of the example, which have valid names, the value at index k of g alone fetches the pair
pub record IsFetchedAlone (g h : List Reading) (k : ℕ) (e : PairExample) : Type 0 where
  pub spec : e.spec ≡ k
  pub valid : AreValid (refs_in e)
  pub alone : FetchesAlone g h (refs_in e) k e.source e.destination

-- an example for each value of g that is the first to fetch some pair which h doesn't fetch, in order
abbrev pub AreFetchedAlone : List Reading → List Reading → List PairExample → Type 0
AreFetchedAlone g h found = IsMadeFrom (λ k r e. IsFetchedAlone g h k e) 0 g found

-- ---- lists that do otherwise

-- over some refs with valid names g fetches a pair that h doesn't fetch
pub record FetchesBeyond (g h : List Reading) : Type 0 where
  pub refs : List Ref
  pub valid : AreValid refs
  pub source : Source
  pub destination : Option (List ℕ)
  pub fetches : FetchPair g refs source destination
  pub other : ¬ (FetchPair h refs source destination)

-- over some, g lacks a source, and h doesn't
pub record LacksBeyond (g h : List Reading) : Type 0 where
  pub refs : List Ref
  pub valid : AreValid refs
  pub lacks : LacksSome g refs
  pub other : ¬ (LacksSome h refs)

-- over no such refs does one of both lists fetch a pair that the other doesn't
abbrev pub FetchAlike : List Reading → List Reading → Type 0
FetchAlike g h = ¬ (FetchesBeyond g h) × ¬ (FetchesBeyond h g)

-- over none does one of them alone lack a source
abbrev pub LackAlike : List Reading → List Reading → Type 0
LackAlike g h = ¬ (LacksBeyond g h) × ¬ (LacksBeyond h g)

-- ---- what else a fetch does by its values

-- over the refs, as those that are named on the command line, some value maps the source soundly to the destination,
-- whether or not a negative one excludes it
abbrev pub UpdatesPair : List Reading → List Ref → Source → List ℕ → Type 0
UpdatesPair g refs s d = (k : ℕ) × MapsSoundly g refs k s (Some d)

-- over some refs with valid names g does so, and h doesn't
pub record UpdatesBeyond (g h : List Reading) : Type 0 where
  pub refs : List Ref
  pub valid : AreValid refs
  pub source : Source
  pub destination : List ℕ
  pub updates : UpdatesPair g refs source destination
  pub other : ¬ (UpdatesPair h refs source destination)

-- refs of the command line are stored alike
abbrev pub TrackAlike : List Reading → List Reading → Type 0
TrackAlike g h = ¬ (UpdatesBeyond g h) × ¬ (UpdatesBeyond h g)

-- tags are followed alike
abbrev pub FollowAlike : List Reading → List Reading → Type 0
FollowAlike g h = FollowsTags g ↔ FollowsTags h

-- over the refs the first value has no star, and fetches the source: `git pull` merges it, if none is named to merge
pub record MergesSource (g : List Reading) (refs : List Ref) (s : Source) : Type 0 where
  pub reading : Reading
  pub at : slice_get g zero ≡ Some reading
  pub plain : (x : List ℕ) → reading.source ≡ Some x → ¬ (HasOneStar x)
  pub destination : Option (List ℕ)
  pub fetches : Fetches g refs zero s destination

-- over some refs with valid names it does so by g, and by h it doesn't
pub record MergesAlone (g h : List Reading) (s : Source) : Type 0 where
  pub refs : List Ref
  pub valid : AreValid refs
  pub merges : MergesSource g refs s
  pub other : ¬ (MergesSource h refs s)

abbrev pub MergesBeyond : List Reading → List Reading → Type 0
MergesBeyond g h = (s : Source) × MergesAlone g h s

-- the same is merged
abbrev pub MergeAlike : List Reading → List Reading → Type 0
MergeAlike g h = ¬ (MergesBeyond g h) × ¬ (MergesBeyond h g)
