-- What `git remote rename` makes of the fetch values of a remote, in the terms of the library, and the report on it.
use Rattle.std.specs.Prelude.{◌≡◌, ℕ, Bool, List, [], ◌∷◌, Option, None, Some, MatchBool, option_map}
use Rattle.std.specs.Prelude.{unwrap_or}
use Rattle.std.specs.List.{All, AllZip, Any}
use Rattle.bstr.specs.Owned.{bstring_bytes}
use Rattle.gix_refspec_text.specs.Texts.Words.{ContainsText}
use Rattle.gix_refspec_remote.specs.Rename.{IsRenamed, stored_below}
use Rattle.refspec_json.specs.Objects.{line_of, renamed_object, unchanged_object}
use Rattle.refspec_io.specs.declared.call.Form.{Form}
use Rattle.refspec_io.specs.declared.call.Form.TheVariants as form
use Rattle.refspec_io.specs.Json.{json_text}
use Rattle.refspec_io.specs.Shown.{AreLines, zero_ended}
use Rattle.refspec_io.specs.Texts.{Given}
use Rattle.refspec_commands.specs.declared.renames.answer.Value.{Value}
use Rattle.refspec_commands.specs.Each.{AddsEach}

-- what the new name makes of the bytes of a value: a value with that, or none if Git leaves the value
abbrev pub IsMade : (old new bytes : List ℕ) → Option (List ℕ) → Type 0
IsMade old new bytes None = ¬ (ContainsText (stored_below old) bytes)
IsMade old new bytes (Some text) = IsRenamed bytes old new text

-- so it is with the value of a text
pub record IsValueOf (old new : List ℕ) (given : Given) (v : Value) : Type 0 where
  pub text : v.text.now ≡ given.bytes
  pub made : IsMade old new given.bytes (option_map bstring_bytes v.renamed)

-- Git leaves the value
abbrev pub IsUnchanged : Value → Type 0
IsUnchanged v = v.renamed ≡ None

-- the value after the renaming
abbrev pub value_after : (text : List ℕ) → Option (List ℕ) → List ℕ
value_after text renamed = unwrap_or renamed text

-- an object for each value: what becomes of it, or that Git leaves it, with a sentence
abbrev pub IsObject : (text : List ℕ) → Option (List ℕ) → List ℕ → Type 0
IsObject text (Some renamed) line = line ≡ line_of (renamed_object (json_text text) (json_text renamed))
IsObject text None line = (message : List ℕ) × (line ≡ line_of (unchanged_object (json_text text) message))

-- what the results have for a value: the one after the renaming, in a line or ended by a zero byte, or an object
abbrev pub IsReport : Form → (text : List ℕ) → Option (List ℕ) → List ℕ → Type 0
IsReport form.Lines text renamed line = AreLines [] (value_after text renamed ∷ []) line
IsReport form.Zeros text renamed line = line ≡ zero_ended (value_after text renamed)
IsReport form.Json text renamed line = IsObject text renamed line

abbrev pub IsReported : Form → Value → List ℕ → Type 0
IsReported f v line = IsReport f v.text.now (option_map bstring_bytes v.renamed) line

-- the results grew by what the new name of a remote makes of values; whether Git leaves some of them
pub record AddsRenamed (remote name : List ℕ) (f : Form) (texts : List Given) (left : Bool) (old new : List ℕ) : Type 0
  where
    pub values : List Value
    pub are : AllZip (IsValueOf remote name) texts values
    pub reported : AddsEach (IsReported f) values old new
    pub status : MatchBool left (Any IsUnchanged values) (All (λ v. ¬ (IsUnchanged v)) values)
