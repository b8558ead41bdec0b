-- Whether a text is a spec or refused, in the terms of the library.
use Rattle.std.specs.Prelude.{◌≡◌, ◌⊎◌, ℕ, Bool, true, List, [], ◌∷◌, map, MatchBool, ⊤}
use Rattle.std.specs.List.{AllZip}
use Rattle.gix_refspec_text.specs.declared.parsing.Error.{Error}
use Rattle.gix_refspec_text.specs.declared.parsing.Operation.{Operation}
use Rattle.gix_refspec.specs.Specs.Grammar.{Reads}
use Rattle.gix_refspec.specs.Specs.Reading.{Reading}
use Rattle.gix_refspec.specs.Specs.Refusal.{IsRefused, Refusal}
use Rattle.gix_refspec.specs.Views.Spec.{reading_of}
use Rattle.gix_refspec.specs.Views.Instruction.{ShowsRefusal}
use Rattle.refspec_io.specs.declared.call.Form.{Form}
use Rattle.refspec_io.specs.declared.checked.Checked.{Checked}
use Rattle.refspec_io.specs.declared.checked.Checked.TheVariants as checked
use Rattle.refspec_io.specs.declared.texts.Text.{Text}
use Rattle.refspec_io.specs.Json.{AddsObjects, IsRefusedLine}
use Rattle.refspec_io.specs.Texts.{Given, given_of, said}

-- the text was read as a spec for its operation, or refused for the first reason against it
abbrev pub IsChecked : Text → Checked → Type 0
IsChecked t (checked.Good text spec) = (text ≡ t) × Reads t.operation t.bytes.now (reading_of spec)
IsChecked t (checked.Bad text error) = (text ≡ t) × ShowsRefusal (IsRefused t.operation t.bytes.now) error

-- the checked text is a spec with this reading
abbrev pub IsSpec : Checked → Reading → Type 0
IsSpec (checked.Good text spec) r = r ≡ reading_of spec
IsSpec (checked.Bad text error) r = ⊥

-- some checked text is refused
abbrev pub HasBad : List Checked → Type 0
HasBad [] = ⊥
HasBad (checked.Good text spec ∷ all) = HasBad all
HasBad (checked.Bad text error ∷ all) = ⊤

-- all checked texts are specs
abbrev pub AreGood : List Checked → Type 0
AreGood [] = ⊤
AreGood (checked.Good text spec ∷ all) = AreGood all
AreGood (checked.Bad text error ∷ all) = ⊥

-- the texts have these readings, in order
abbrev pub AreRead : List (Operation × List ℕ) → List Reading → Type 0
AreRead texts g = AllZip (λ t r. Reads t.0 t.1 r) texts g

-- some text is refused
abbrev pub HasRefused : List (Operation × List ℕ) → Type 0
HasRefused [] = ⊥
HasRefused (t ∷ texts) = ((e : Refusal) × IsRefused t.0 t.1 e) ⊎ HasRefused texts

-- whether some text is refused, or all are read
abbrev pub DecidesRefused : Bool → List (Operation × List ℕ) → Type 0
DecidesRefused refused texts = MatchBool refused (HasRefused texts) ((g : List Reading) × AreRead texts g)

-- the object of a refused text, as a line
pub record IsRefusal (t : Given) (line : List ℕ) : Type 0 where
  pub text : Text
  pub error : Error
  pub is_text : given_of text ≡ t
  pub refused : ShowsRefusal (IsRefused t.operation t.bytes) error
  pub is : IsRefusedLine text error line

-- the report on a text: that line if it is refused, else nothing
abbrev pub IsReadOrRefusal : Given → List ℕ → Type 0
IsReadOrRefusal t line = (((r : Reading) × Reads t.operation t.bytes r) × (line ≡ [])) ⊎ IsRefusal t line

-- the same for a checked text
abbrev pub IsRefusalOf : Checked → List ℕ → Type 0
IsRefusalOf (checked.Good text spec) line = line ≡ []
IsRefusalOf (checked.Bad text error) line = IsRefusedLine text error line

-- all texts are specs, and the results grew by what Adds says of their readings; or some text is refused, the results
-- grew in JSON by the refusals and else stayed as they were, and Refuses holds
abbrev pub AddsIfRead : (List Reading → List ℕ → List ℕ → Type 0) → Type 0 → Form → Bool → List Given → List ℕ → List ℕ
    → Type 0
AddsIfRead Adds Refuses form refused texts old new =
    ((g : List Reading) × AreRead (map said texts) g × Adds g old new)
    ⊎ (HasRefused (map said texts) × AddsObjects form IsReadOrRefusal texts old new × (refused ≡ true) × Refuses)

-- the same for checked texts
abbrev pub AddsIfGood : (List Reading → List ℕ → List ℕ → Type 0) → Type 0 → Form → Bool → List Checked → List ℕ
    → List ℕ → Type 0
AddsIfGood Adds Refuses form refused all old new =
    ((g : List Reading) × AllZip IsSpec all g × Adds g old new)
    ⊎ (HasBad all × AddsObjects form IsRefusalOf all old new × (refused ≡ true) × Refuses)
