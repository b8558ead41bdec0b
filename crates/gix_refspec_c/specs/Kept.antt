-- What a match keeps as entries, and slices that begin with the structs and the texts of entries.
use Rattle.std.specs.Prelude.{◌≡◌, ◌+◌, ℕ, List, [], ◌++◌, length, map, take, drop}
use Rattle.gix_refspec.specs.Texts.ObjectId.{id_bytes, lower_of}
use Rattle.gix_refspec.specs.Views.Group.{mapped_of, readings_of}
use Rattle.gix_refspec_c.specs.declared.kept.Kept.{Kept}
use Rattle.gix_refspec_c.specs.declared.kept.Kept.TheVariants as kept
use Rattle.gix_refspec_c.specs.declared.kept.Piece.{Piece}
use Rattle.gix_refspec_c.specs.declared.kept.Shown.{Shown}
use Rattle.gix_refspec_c.specs.declared.kept.Shown.TheVariants as shown
use Rattle.gix_refspec_c.specs.declared.listing.MappingOut.{MappingOut}
use Rattle.gix_refspec_c.specs.Mapping.{Describes, Entry, backward_entry, entry_with, forward_entry}

-- the entries of the mappings that a match keeps
abbrev pub entries_of : Kept → List Entry
entries_of (kept.Forward o) = map (forward_entry (readings_of o.group)) (map mapped_of o.mappings.items)
entries_of (kept.Backward o) = map (backward_entry (readings_of o.group)) (map mapped_of o.mappings.items)

-- the bytes of a text of a mapping
abbrev pub text_in : Shown → List ℕ
text_in (shown.Bytes bytes) = bytes.now
text_in (shown.Id id) = lower_of (id_bytes id.now)

-- a mapping with its texts, as an entry
abbrev pub entry_in : Piece → Entry
entry_in p = entry_with p.numbers (text_in p.id) (text_in p.made)

abbrev pub no_entry : Entry
no_entry = record {
  spec = 0;
  item = 0;
  has_destination = 0;
  forced = 0;
  origin = 0;
  verdict = 0;
  id = [];
  made = [];
}

-- a buffer that has a text from this offset on
abbrev pub with_text : ℕ → List ℕ → List ℕ → List ℕ
with_text at text buffer = take at buffer ++ (text ++ drop (at + length text) buffer)

-- two slices begin with the structs and the texts of the entries, and are unchanged after them
pub record Fills (es : List Entry) (mappings_before : List MappingOut) (buffer_before : List ℕ)
    (mappings_after : List MappingOut) (buffer_after : List ℕ) : Type 0 where
  pub structs : List MappingOut
  pub text : List ℕ
  pub describes : Describes es structs text
  pub mappings : mappings_after ≡ structs ++ drop (length structs) mappings_before
  pub buffer : buffer_after ≡ text ++ drop (length text) buffer_before
