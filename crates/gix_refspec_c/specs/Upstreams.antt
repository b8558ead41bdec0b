-- The upstream of a branch as a caller receives it, by the definition of gix_refspec_remote.
use Rattle.std.specs.Prelude.{◌≡◌, ◌⊎◌, ℕ, List, []}
use Rattle.std.specs.List.{AllZip}
use Rattle.gix_refspec_text.specs.declared.parsing.Operation.TheVariants.{Fetch}
use Rattle.gix_refspec.specs.Specs.Reading.{Reading}
use Rattle.gix_refspec.specs.Specs.Grammar.{Reads}
use Rattle.gix_refspec_remote.specs.Upstream.{Upstream, tracked, excluded, not_stored, not_fetched, IsUpstream}
use Rattle.gix_refspec_c.specs.declared.failure.Failure.{Failure}
use Rattle.gix_refspec_c.specs.declared.failure.Failure.TheVariants as failure
use Rattle.gix_refspec_c.specs.declared.upstreams.Shown.{Shown}
use Rattle.gix_refspec_c.specs.declared.upstreams.UpstreamOut.{UpstreamOut}
use Rattle.gix_refspec_c.specs.Buffer.{IsTooSmall, IsWrittenTo}
use Rattle.gix_refspec_c.specs.Mapping.{no_index}

-- the data of an answer: the number of its kind, the indexes of a spec and of one that excludes, or `no_index`, and the
-- name of the tracking ref, or empty
pub record UpstreamShown : Type 0 where
  pub kind : ℕ
  pub spec : ℕ
  pub excluded_by : ℕ
  pub name : List ℕ

-- what is shown of an upstream
abbrev pub shown_as : Upstream → UpstreamShown
shown_as (tracked name k) = record { kind = 1; spec = k; excluded_by = no_index; name = name }
shown_as (excluded k by) = record { kind = 2; spec = k; excluded_by = by; name = [] }
shown_as (not_stored k) = record { kind = 3; spec = k; excluded_by = no_index; name = [] }
shown_as not_fetched = record { kind = 4; spec = no_index; excluded_by = no_index; name = [] }

-- the same, in a struct of the code
abbrev pub shown_in : Shown → UpstreamShown
shown_in s = record { kind = s.kind; spec = s.spec; excluded_by = s.excluded_by; name = s.name.now }

-- the texts are fetches, and the answer is the upstream of a branch that merges the ref
pub record IsUpstreamIn (texts : List (List ℕ)) (merge : List ℕ) (s : UpstreamShown) : Type 0 where
  pub group : List Reading
  pub read : AllZip (Reads Fetch) texts group
  pub upstream : Upstream
  pub is : IsUpstream group merge upstream
  pub show : s ≡ shown_as upstream

-- the struct has the numbers of the answer
pub record HasNumbers (s : UpstreamShown) (out : UpstreamOut) : Type 0 where
  pub kind : out.kind ≡ s.kind
  pub spec : out.spec ≡ s.spec
  pub excluded_by : out.excluded_by ≡ s.excluded_by

-- the buffer begins with the name of the answer, and the struct has the rest
abbrev pub IsToldAs : UpstreamShown → List ℕ → List ℕ → UpstreamOut → Type 0
IsToldAs s old new out = IsWrittenTo s.name old new out.len × HasNumbers s out

-- the buffer is too small for the name of the answer, and unchanged; the struct has the rest, and the required size
abbrev pub IsNotToldAs : UpstreamShown → List ℕ → List ℕ → UpstreamOut → Type 0
IsNotToldAs s old new out = IsTooSmall s.name old new out.len × HasNumbers s out

-- why a caller gets no name: the buffer is too small for that of an answer of which Is holds; or Why holds of the
-- failure, and buffer and struct are unchanged
abbrev pub WritesNoUpstream : (UpstreamShown → Type 0) → (Failure → Type 0) → List ℕ → List ℕ → UpstreamOut
    → UpstreamOut → Failure → Type 0
WritesNoUpstream Is Why old new before after f =
    ((f ≡ failure.TooSmall) × (s : UpstreamShown) × Is s × IsNotToldAs s old new after)
    ⊎ (Why f × (new ≡ old) × (after ≡ before))
