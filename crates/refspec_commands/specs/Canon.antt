-- The results on checked texts: the output of `canon`, in the terms of the library. What else is said of specs is left
-- open.
use Rattle.std.specs.Prelude.{◌≡◌, ◌⊎◌, ℕ, List, [], ◌∷◌, Option, None, Some, codes, map, ⊤}
use Rattle.gix_refspec_text.specs.declared.parsing.Operation.{Operation}
use Rattle.gix_refspec.specs.Specs.Grammar.{Reads}
use Rattle.gix_refspec.specs.Specs.Meaning.{printed}
use Rattle.gix_refspec.specs.Specs.Reading.{Reading}
use Rattle.gix_refspec.specs.Specs.Refusal.{IsRefused, Refusal}
use Rattle.gix_refspec.specs.Views.Spec.{reading_of}
use Rattle.refspec_json.specs.declared.specs.SpecKind.{SpecKind}
use Rattle.refspec_json.specs.declared.specs.SpecKind.TheVariants as kind
use Rattle.refspec_io.specs.declared.call.Form.{Form}
use Rattle.refspec_io.specs.declared.call.Form.TheVariants as form
use Rattle.refspec_io.specs.declared.checked.Checked.{Checked}
use Rattle.refspec_io.specs.declared.checked.Checked.TheVariants as checked
use Rattle.refspec_io.specs.declared.texts.Text.{Text}
use Rattle.refspec_io.specs.Json.{AddsObjects, AreInOrder, IsRefusedLine, IsSpecLine, WritesSpec}
use Rattle.refspec_io.specs.Read.{IsRefusal, IsRefusalOf}
use Rattle.refspec_io.specs.Shown.{AddsNames}
use Rattle.refspec_io.specs.Texts.{Given, given_of, said}

-- names are the canonical texts of those texts that are specs, in order; each other text is refused
abbrev pub AreCanonical : List (Operation × List ℕ) → List (List ℕ) → Type 0
AreCanonical [] names = names ≡ []
AreCanonical (t ∷ texts) names =
    ((r : Reading) × (name : List ℕ) × (rest : List (List ℕ)) × Reads t.0 t.1 r × (printed r ≡ Some name)
    × AreCanonical texts rest × (names ≡ name ∷ rest))
    ⊎ ((e : Refusal) × IsRefused t.0 t.1 e × AreCanonical texts names)

-- the same for checked texts
abbrev pub AreCanonicalOf : List Checked → List (List ℕ) → Type 0
AreCanonicalOf [] names = names ≡ []
AreCanonicalOf (checked.Good text spec ∷ all) names =
    (name : List ℕ) × (rest : List (List ℕ)) × (printed (reading_of spec) ≡ Some name) × AreCanonicalOf all rest
    × (names ≡ name ∷ rest)
AreCanonicalOf (checked.Bad text error ∷ all) names = AreCanonicalOf all names

-- the object of a text with its canonical text, as a line
abbrev pub IsCanonicalLine : Text → List ℕ → List ℕ → Type 0
IsCanonicalLine t name line = IsSpecLine (codes "canonical") t name None None line

-- the object of a checked text, as a line: its canonical text if it is a spec, else its refusal
abbrev pub IsCanonicalOrRefusal : Checked → List ℕ → Type 0
IsCanonicalOrRefusal (checked.Good text spec) line = (name : List ℕ) × (printed (reading_of spec) ≡ Some name)
    × IsCanonicalLine text name line
IsCanonicalOrRefusal (checked.Bad text error) line = IsRefusedLine text error line

-- the object of a text that is a spec, as a line
pub record IsCanonicalObject (t : Given) (line : List ℕ) : Type 0 where
  pub text : Text
  pub reading : Reading
  pub name : List ℕ
  pub is_text : given_of text ≡ t
  pub read : Reads t.operation t.bytes reading
  pub is_name : printed reading ≡ Some name
  pub is : IsCanonicalLine text name line

-- the results grew by the canonical texts of the checked texts
abbrev pub AddsCanonical : Form → List Checked → List ℕ → List ℕ → Type 0
AddsCanonical form.Json all old new = AddsObjects form.Json IsCanonicalOrRefusal all old new
AddsCanonical form.Lines all old new = (names : List (List ℕ)) × AreCanonicalOf all names
    × AddsNames form.Lines [] names old new
AddsCanonical form.Zeros all old new = (names : List (List ℕ)) × AreCanonicalOf all names
    × AddsNames form.Zeros [] names old new

-- the results grew by what a kind says of checked texts: their canonical texts, or for none only the refusals in JSON
abbrev pub AddsShown : Option SpecKind → Form → List Checked → List ℕ → List ℕ → Type 0
AddsShown None form all old new = AddsObjects form IsRefusalOf all old new
AddsShown (Some kind.Canonical) form all old new = AddsCanonical form all old new
AddsShown (Some kind.Meaning) form all old new = ⊤
AddsShown (Some kind.Good) form all old new = ⊤

-- the output is the canonical texts of those texts that are specs, in the given form; in JSON refusals too
abbrev pub ShowsCanonical : Form → List Given → List ℕ → Type 0
ShowsCanonical form.Json texts output = AreInOrder (λ t line. IsCanonicalObject t line ⊎ IsRefusal t line) texts output
ShowsCanonical form.Lines texts output = (names : List (List ℕ)) × AreCanonical (map said texts) names
    × AddsNames form.Lines [] names [] output
ShowsCanonical form.Zeros texts output = (names : List (List ℕ)) × AreCanonical (map said texts) names
    × AddsNames form.Zeros [] names [] output

-- the results grew by the canonical text of a spec
abbrev pub AddsCanonicalName : Form → Text → List ℕ → List ℕ → List ℕ → Type 0
AddsCanonicalName form.Json t name old new = WritesSpec (codes "canonical") t name None None old new
AddsCanonicalName form.Lines t name old new = AddsNames form.Lines [] (name ∷ []) old new
AddsCanonicalName form.Zeros t name old new = AddsNames form.Zeros [] (name ∷ []) old new
