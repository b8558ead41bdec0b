-- How the mappings of a look-up are written, each behind the remote that makes it if the call names remotes. This
-- project's own rule.
use Rattle.std.specs.Prelude.{◌≡◌, ℕ, List, [], ◌++◌, Option, None, Some, option_map, codes}
use Rattle.gix_refspec.specs.Matching.Mappings.{Mapped}
use Rattle.gix_refspec.specs.Views.Group.{mapped_of}
use Rattle.refspec_json.specs.Objects.{line_of, remote_mapping_object}
use Rattle.refspec_io.specs.declared.call.Form.{Form}
use Rattle.refspec_io.specs.declared.call.Form.TheVariants as form
use Rattle.refspec_io.specs.Json.{AreInOrder, json_text}
use Rattle.refspec_io.specs.Rows.{IsCell, IsLine, fields, mapped_object, mapped_row, source_text}
use Rattle.refspec_io.specs.Shown.{KeepsResults, zero_ended}
use Rattle.refspec_commands.specs.declared.mappings.Row.{Row}

-- a mapping, with the name of its remote, if the call names remotes, and the text of its spec
pub record Shown : Type 0 where
  pub remote : Option (List ℕ)
  pub mapping : Mapped
  pub text : List ℕ

-- the same of the code
abbrev pub shown_row : Row → Shown
shown_row r = record { remote = option_map (λ n. n.now) r.remote; mapping = mapped_of r.mapping.now; text = r.text.now }

-- a line: that of the mapping, behind a cell of the remote
abbrev pub IsRemoteLine : Option (List ℕ) → List ℕ → Mapped → List ℕ → Type 0
IsRemoteLine None text m line = IsLine (mapped_row (codes "FETCH_HEAD") text m) line
IsRemoteLine (Some remote) text m line =
    (cell : List ℕ) × (rest : List ℕ) × IsCell remote cell × IsLine (mapped_row (codes "FETCH_HEAD") text m) rest ×
    (line ≡ cell ++ rest)

-- the field of the remote, ended by a zero byte
abbrev pub remote_field : Option (List ℕ) → List ℕ
remote_field None = []
remote_field (Some remote) = zero_ended remote

-- the object of a mapping of a remote, as a line
abbrev pub remote_object : List ℕ → List ℕ → Mapped → List ℕ
remote_object remote text m =
    line_of (remote_mapping_object (json_text remote) (json_text (source_text m.source)) (option_map json_text
    m.destination) (json_text text))

-- the object of a mapping, as a line, whether or not it has a remote
abbrev pub any_object : Option (List ℕ) → List ℕ → Mapped → List ℕ
any_object None text m = mapped_object text m
any_object (Some remote) text m = remote_object remote text m

-- a row in a form; a missing destination is `FETCH_HEAD` in a line, an empty field in a record, and null in an object
abbrev pub IsRow : Form → Shown → List ℕ → Type 0
IsRow form.Lines r line = IsRemoteLine r.remote r.text r.mapping line
IsRow form.Zeros r line = line ≡ remote_field r.remote ++ fields (mapped_row [] r.text r.mapping)
IsRow form.Json r line = line ≡ any_object r.remote r.text r.mapping

-- the results grew by a row
abbrev pub WritesRow : Form → Shown → List ℕ → List ℕ → Type 0
WritesRow form r old new = (line : List ℕ) × IsRow form r line × (new ≡ old ++ line)

-- the results grew by rows, in order
abbrev pub AddsRows : Form → List Shown → List ℕ → List ℕ → Type 0
AddsRows form rows old new = (lines : List ℕ) × AreInOrder (IsRow form) rows lines × (new ≡ old ++ lines)

-- the same; in JSON there may be messages before and after them
pub record AddsRowsAmong (form : Form) (rows : List Shown) (old new : List ℕ) : Type 0 where
  pub first : List ℕ
  pub last : List ℕ
  pub before : KeepsResults form old first
  pub reported : AddsRows form rows first last
  pub after : KeepsResults form last new
