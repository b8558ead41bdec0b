-- The fetch values that Git writes for a remote, and those of reviews, as a caller receives them.
use Rattle.std.specs.Prelude.{◌≡◌, ◌≢◌, ℕ, List, Some}
use Rattle.bstr.specs.BStr.{bstr_bytes}
use Rattle.bstr.specs.declared.bstr.BStr.{BStr}
use Rattle.gix_refspec_text.specs.declared.parsing.Operation.TheVariants.{Fetch}
use Rattle.gix_refspec.specs.Specs.Reading.{Forced, Reading}
use Rattle.gix_refspec.specs.Specs.Grammar.{fetched}
use Rattle.gix_refspec.specs.Specs.Meaning.{printed}
use Rattle.gix_refspec_remote.specs.declared.parts.PartsError.{PartsError}
use Rattle.gix_refspec_remote.specs.declared.parts.PartsError.TheVariants as why
use Rattle.gix_refspec_remote.specs.declared.remotes.Storage.TheVariants as storage
use Rattle.gix_refspec_remote.specs.declared.remotes.Reviews.TheVariants as reviews
use Rattle.gix_refspec_remote.specs.Parts.{IsNoSpec}
use Rattle.gix_refspec_remote.specs.Remotes.{branch_destination, branch_source, reviews_destination, reviews_source}
use Rattle.gix_refspec_c.specs.declared.failure.Failure.{Failure}
use Rattle.gix_refspec_c.specs.declared.remotes.Value.{Value}
use Rattle.gix_refspec_c.specs.declared.remotes.Value.TheVariants as value
use Rattle.gix_refspec_c.specs.Making.{IsUnmade}

-- the number of a value
abbrev pub value_code : Value → ℕ
value_code value.Branch = 1
value_code value.Mirror = 2
value_code value.PullRequests = 3
value_code value.MergeRequests = 4

-- a source and a destination
pub record ValueSides : Type 0 where
  pub source : List ℕ
  pub destination : List ℕ

-- the sides of a value for this remote and this branch
abbrev pub HasValueSides : Value → List ℕ → List ℕ → ValueSides → Type 0
HasValueSides value.Branch remote branch sides = (name : BStr) × (bstr_bytes name ≡ remote)
    × (sides.source ≡ branch_source (storage.Tracking name) branch)
    × (sides.destination ≡ branch_destination (storage.Tracking name) branch)
HasValueSides value.Mirror remote branch sides = (sides.source ≡ branch_source storage.Mirror branch)
    × (sides.destination ≡ branch_destination storage.Mirror branch)
HasValueSides value.PullRequests remote branch sides = (sides.source ≡ reviews_source reviews.PullRequests)
    × (sides.destination ≡ reviews_destination reviews.PullRequests remote)
HasValueSides value.MergeRequests remote branch sides = (sides.source ≡ reviews_source reviews.MergeRequests)
    × (sides.destination ≡ reviews_destination reviews.MergeRequests remote)

-- the forced fetch of the sides of a value
abbrev pub IsFetchOf : Value → List ℕ → List ℕ → Reading → Type 0
IsFetchOf v remote branch r = (sides : ValueSides) × HasValueSides v remote branch sides
    × (r ≡ fetched Forced sides.source (Some sides.destination))

-- why the sides of a value make no refspec, unless memory ran out
abbrev pub IsNoFetchOf : Value → List ℕ → List ℕ → PartsError → Type 0
IsNoFetchOf v remote branch e = (sides : ValueSides) × HasValueSides v remote branch sides
    × (e ≢ why.Memory → IsNoSpec Fetch Forced sides.source (Some sides.destination) e)

-- the answer is the canonical text of the value
abbrev pub IsValue : Value → List ℕ → List ℕ → List ℕ → Type 0
IsValue v remote branch answer = (r : Reading) × IsFetchOf v remote branch r × (printed r ≡ Some answer)

-- why there is no such value
abbrev pub IsNoValue : Value → List ℕ → List ℕ → Failure → Type 0
IsNoValue v remote branch f = (sides : ValueSides) × HasValueSides v remote branch sides
    × IsUnmade Fetch Forced sides.source (Some sides.destination) f
