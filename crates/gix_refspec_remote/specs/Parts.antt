-- Refspecs made from their parts, by the grammar of git-fetch(1) and git-push(1) under `<refspec>`.
use Rattle.std.specs.Prelude.{◌≡◌, ℕ, List, [], ◌∷◌, ◌++◌, Option, option_map}
use Rattle.bstr.specs.BStr.{bstr_bytes}
use Rattle.gix_refspec_text.specs.declared.parsing.Operation.{Operation}
use Rattle.gix_refspec_text.specs.Texts.Bytes.{plus, caret}
use Rattle.gix_refspec_text.specs.Specs.Reading.{Mode, Normal, Forced, Negative, Reading}
use Rattle.gix_refspec_text.specs.Specs.Grammar.{AreParts, Reads, with_colon}
use Rattle.gix_refspec_text.specs.Specs.Refusal.{IsRefused}
use Rattle.gix_refspec_text.specs.Views.Instruction.{ShowsRefusal}
use Rattle.gix_refspec_remote.specs.declared.parts.Sign.{Sign}
use Rattle.gix_refspec_remote.specs.declared.parts.Sign.TheVariants as sign
use Rattle.gix_refspec_remote.specs.declared.parts.SpecParts.{SpecParts}
use Rattle.gix_refspec_remote.specs.declared.parts.PartsError.{PartsError}
use Rattle.gix_refspec_remote.specs.declared.parts.PartsError.TheVariants as why

-- the mode that a sign gives
abbrev pub mode_in : Sign → Mode
mode_in sign.None = Normal
mode_in sign.Plus = Forced
mode_in sign.Caret = Negative

-- the sign of a mode
abbrev pub sign_bytes : Mode → List ℕ
sign_bytes Normal = []
sign_bytes Forced = plus ∷ []
sign_bytes Negative = caret ∷ []

-- the text with this mode and these sides, as they are
abbrev pub text_with : Mode → List ℕ → Option (List ℕ) → List ℕ
text_with mode s d = sign_bytes mode ++ with_colon s d

-- the destination of parts
abbrev pub destination_in : SpecParts → Option (List ℕ)
destination_in p = option_map bstr_bytes p.destination

-- the text of parts
abbrev pub text_of_parts : SpecParts → List ℕ
text_of_parts p = text_with (mode_in p.sign) (bstr_bytes p.source) (destination_in p)

-- the text of parts has these parts and no others
abbrev pub AreApart : SpecParts → Type 0
AreApart p = AreParts (mode_in p.sign) (bstr_bytes p.source) (destination_in p) (text_of_parts p)

-- the text of parts has these parts, and this reading
abbrev pub HasReading : SpecParts → Reading → Type 0
HasReading p r = AreApart p × Reads p.operation (text_of_parts p) r

-- why this mode and these sides make no refspec: their text has other ones, or is refused for this reason
abbrev pub IsNoSpec : Operation → Mode → List ℕ → Option (List ℕ) → PartsError → Type 0
IsNoSpec op mode s d why.OtherParts = ¬ (AreParts mode s d (text_with mode s d))
IsNoSpec op mode s d (why.Text e) = AreParts mode s d (text_with mode s d)
    × ShowsRefusal (IsRefused op (text_with mode s d)) e
IsNoSpec op mode s d why.Memory = ⊥

-- why the parts make none
abbrev pub IsWhyNot : SpecParts → PartsError → Type 0
IsWhyNot p = IsNoSpec p.operation (mode_in p.sign) (bstr_bytes p.source) (destination_in p)
