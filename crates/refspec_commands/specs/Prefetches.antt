-- What `git fetch --prefetch` applies in place of specs, in the terms of the library, and the report on it.
use Rattle.std.specs.Prelude.{◌≡◌, ℕ, List, [], ◌∷◌, Option, None, Some, MatchOption, option_map}
use Rattle.std.specs.List.{AllZip, flat_map}
use Rattle.bstr.specs.Owned.{bstring_bytes}
use Rattle.gix_refspec.specs.Specs.Meaning.{printed}
use Rattle.gix_refspec.specs.Specs.Reading.{Reading}
use Rattle.gix_refspec_remote.specs.Prefetch.{IsPrefetched}
use Rattle.refspec_json.specs.Objects.{ignored_object, line_of, prefetch_object}
use Rattle.refspec_io.specs.declared.call.Form.{Form}
use Rattle.refspec_io.specs.declared.call.Form.TheVariants as form
use Rattle.refspec_io.specs.Json.{json_text}
use Rattle.refspec_io.specs.Shown.{AreLines, zero_ended}
use Rattle.refspec_commands.specs.declared.prefetches.answer.Applied.{Applied}
use Rattle.refspec_commands.specs.Each.{AddsEach}

-- the canonical text of a spec, and of the spec that a prefetch applies in place of it, or that it applies none
pub record IsApplied (r : Reading) (a : Applied) : Type 0 where
  pub text : printed r ≡ Some (bstring_bytes a.text)
  pub applied : MatchOption a.applied ((made : Reading) → ¬ (IsPrefetched r made))
      (λ text. (made : Reading) × IsPrefetched r made × (printed made ≡ Some (bstring_bytes text)))

-- the text that is applied, if there is one
abbrev pub name_of : Option (List ℕ) → List (List ℕ)
name_of None = []
name_of (Some text) = text ∷ []

-- an object for each spec: what is applied, or that it is ignored, with a sentence
abbrev pub IsObject : (text : List ℕ) → Option (List ℕ) → List ℕ → Type 0
IsObject text (Some applied) line = line ≡ line_of (prefetch_object (json_text text) (json_text applied))
IsObject text None line = (message : List ℕ) × (line ≡ line_of (ignored_object (json_text text) message))

-- what the results have for a spec: the text that is applied, in a line or ended by a zero byte, or an object
abbrev pub IsReport : Form → (text : List ℕ) → Option (List ℕ) → List ℕ → Type 0
IsReport form.Lines text applied line = AreLines [] (name_of applied) line
IsReport form.Zeros text applied line = line ≡ flat_map zero_ended (name_of applied)
IsReport form.Json text applied line = IsObject text applied line

abbrev pub IsReported : Form → Applied → List ℕ → Type 0
IsReported f a line = IsReport f (bstring_bytes a.text) (option_map bstring_bytes a.applied) line

-- the results grew by what a prefetch applies in place of specs with these readings
abbrev pub AddsPrefetches : Form → List Reading → List ℕ → List ℕ → Type 0
AddsPrefetches f g old new = (all : List Applied) × AllZip IsApplied g all × AddsEach (IsReported f) all old new
