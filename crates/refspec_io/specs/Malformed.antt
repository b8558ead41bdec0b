-- How bad records are reported in JSON. This project's own rule.
use Rattle.std.specs.Prelude.{◌≡◌, ℕ, List, ◌++◌}
use Rattle.refspec_json.specs.Objects.{line_of, malformed_object}
use Rattle.refspec_io.specs.declared.call.Form.TheVariants as form
use Rattle.refspec_io.specs.declared.refs.BadRecord.{BadRecord}
use Rattle.refspec_io.specs.declared.texts.Location.{Location}
use Rattle.refspec_io.specs.declared.texts.Location.TheVariants as location
use Rattle.refspec_io.specs.Json.{json_text}
use Rattle.refspec_io.specs.Messages.{IsLocation}
use Rattle.refspec_io.specs.Refs.{bad_bytes}

-- the object of a bad record, as a line, with a sentence on it and advice
pub record IsMalformedLine (p : Location) (bytes line : List ℕ) : Type 0 where
  pub location : List ℕ
  pub message : List ℕ
  pub is_location : IsLocation form.Json p location
  pub advice : List ℕ
  pub is : line ≡ line_of (malformed_object location (json_text bytes) message advice)

-- bytes grew by that line
abbrev pub WritesMalformed : Location → List ℕ → List ℕ → List ℕ → Type 0
WritesMalformed p bytes old new = (line : List ℕ) × IsMalformedLine p bytes line × (new ≡ old ++ line)

-- the location is the record of an input with this number
abbrev pub IsRecordOf : List ℕ → ℕ → Location → Type 0
IsRecordOf input number (location.Record name n) = (name.now ≡ input) × (n ≡ number)
IsRecordOf input number _ = ⊥

-- the object of a bad record of an input, as a line
abbrev pub IsBadLine : List ℕ → BadRecord → List ℕ → Type 0
IsBadLine input bad line = (p : Location) × IsRecordOf input bad.number p × IsMalformedLine p (bad_bytes bad) line

-- the same for a record at any location
abbrev pub IsMalformed : List ℕ → List ℕ → Type 0
IsMalformed bytes line = (p : Location) × IsMalformedLine p bytes line
