-- The upstream of a branch, by gitrevisions(7) under `<branchname>@{upstream}`: where the fetch specs of its remote
-- store the ref that the branch merges. That sides are compared as they are written, and how exclusions are found, are
-- rules of Git that no manual states.
use Rattle.std.specs.Prelude.{◌≡◌, ◌⊎◌, ◌<◌, ℕ, List, Option, None, Some}
use Rattle.std.specs.List.{slice_get}
use Rattle.gix_refspec_text.specs.Texts.Words.{Lacks}
use Rattle.gix_refspec_text.specs.Texts.Bytes.{star}
use Rattle.gix_refspec_text.specs.Specs.Reading.{Reading}
use Rattle.gix_refspec_text.specs.Specs.Grammar.{IsPositive}
use Rattle.gix_refspec_match.specs.Matching.Mappings.{IsExcluded, IsExcludedBy}
use Rattle.gix_refspec_remote.specs.Written.{IsText}

-- an upstream, or why there is none: the ref and the index of its spec; the indexes of a positive spec and of the
-- negative one that excludes what it is asked for; the index of a spec that stores nothing; or nothing is fetched
pub data Upstream : Type 0 where
  tracked : List ℕ → ℕ → Upstream
  excluded : ℕ → ℕ → Upstream
  not_stored : ℕ → Upstream
  not_fetched : Upstream

-- the positive spec fetches the merged ref n, by its source as it is written
pub record Fetches (n : List ℕ) (r : Reading) : Type 0 where
  pub positive : IsPositive r.mode
  pub source : List ℕ
  pub is : r.source ≡ Some source
  pub word : Option (List ℕ)
  pub reads : IsText source n word

-- the positive spec stores the merged ref n in the ref d: both sides, as they are written, have one word
pub record Stores (n d : List ℕ) (r : Reading) : Type 0 where
  pub fetches : Fetches n r
  pub destination : List ℕ
  pub is : r.destination ≡ Some destination
  pub makes : IsText destination d fetches.word

-- the source of the positive spec is n, without a star
pub record Names (n : List ℕ) (r : Reading) : Type 0 where
  pub positive : IsPositive r.mode
  pub source : r.source ≡ Some n
  pub plain : Lacks star n

-- the positive spec of two patterns stores s in n
pub record Turns (n s : List ℕ) (r : Reading) : Type 0 where
  pub positive : IsPositive r.mode
  pub source : List ℕ
  pub from : r.source ≡ Some source
  pub destination : List ℕ
  pub to : r.destination ≡ Some destination
  pub word : List ℕ
  pub reads : IsText destination n (Some word)
  pub makes : IsText source s (Some word)

-- the ref s of which Git asks, for the merged ref n and the spec, whether it is excluded: n itself, if it is the
-- source; of a pattern what that stores in n, as Git takes n for a destination here
abbrev pub AsksFor : List ℕ → List ℕ → Reading → Type 0
AsksFor n s r = (Names n r × (s ≡ n)) ⊎ Turns n s r

-- the spec at this index of the group satisfies P
abbrev pub HasAt : List Reading → ℕ → (Reading → Type 0) → Type 0
HasAt g k P = (r : Reading) × (slice_get g k ≡ Some r) × P r

-- the spec at this index satisfies P, and no earlier one does
abbrev pub IsFirstAt : List Reading → ℕ → (Reading → Type 0) → Type 0
IsFirstAt g k P = HasAt g k P × ((j : ℕ) → j < k → ¬ (HasAt g j P))

-- no spec satisfies P
abbrev pub HasNo : List Reading → (Reading → Type 0) → Type 0
HasNo g P = (k : ℕ) → ¬ (HasAt g k P)

-- the spec is asked for a ref that the group excludes
abbrev pub AsksForExcluded : List Reading → List ℕ → Reading → Type 0
AsksForExcluded g n r = (s : List ℕ) × AsksFor n s r × IsExcluded g s

-- the spec is asked for a ref that the spec at the index k excludes
abbrev pub IsExcludedAt : List Reading → List ℕ → ℕ → Reading → Type 0
IsExcludedAt g n k r = (s : List ℕ) × AsksFor n s r × HasAt g k (IsExcludedBy s)

-- the spec stores the merged ref n in some ref
abbrev pub StoresSome : List ℕ → Reading → Type 0
StoresSome n r = (d : List ℕ) × Stores n d r

-- the upstream of a branch that merges the ref n, by the fetch specs of its remote
abbrev pub IsUpstream : List Reading → List ℕ → Upstream → Type 0
IsUpstream g n (excluded k by) = IsFirstAt g k (AsksForExcluded g n) × HasAt g k (IsExcludedAt g n by)
IsUpstream g n (tracked d k) = HasNo g (AsksForExcluded g n) × IsFirstAt g k (StoresSome n) × HasAt g k (Stores n d)
IsUpstream g n (not_stored k) = HasNo g (AsksForExcluded g n) × HasNo g (StoresSome n) × IsFirstAt g k (Fetches n)
IsUpstream g n not_fetched = HasNo g (AsksForExcluded g n) × HasNo g (Fetches n)
