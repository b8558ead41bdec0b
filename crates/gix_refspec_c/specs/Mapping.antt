-- Mappings as a caller receives them: a struct for each, and their texts one after the other.
use Rattle.std.specs.Prelude.{◌≡◌, ◌⊎◌, ◌<◌, ◌≤◌, ◌+◌, ℕ, List, [], ◌++◌, length, drop, Option, None, Some}
use Rattle.std.specs.List.{slice_get}
use Rattle.gix_refspec.specs.Texts.ObjectId.{lower_of}
use Rattle.gix_refspec.specs.Specs.Meaning.{Meaning, meaning_of}
use Rattle.gix_refspec.specs.Specs.Reading.{Reading}
use Rattle.gix_refspec.specs.Matching.Mappings.{Source, name, id, Mapped}
use Rattle.gix_refspec_c.specs.declared.failure.Failure.{Failure}
use Rattle.gix_refspec_c.specs.declared.failure.Failure.TheVariants as failure
use Rattle.gix_refspec_c.specs.declared.listing.MappingOut.{MappingOut}
use Rattle.gix_refspec_c.specs.declared.listing.Numbers.{Numbers}
use Rattle.gix_refspec_c.specs.Layout.{AreLaidOut}
use Rattle.gix_refspec_c.specs.Single.{parts_of}

-- the data of a mapping: the indexes of its spec and of its name, whether it has a destination, whether its spec is
-- forced, in a plan the list of its spec and a verdict, the text of a source that is an id, and the name that the spec
-- makes
pub record Entry : Type 0 where
  pub spec : ℕ
  pub item : ℕ
  pub has_destination : ℕ
  pub forced : ℕ
  pub origin : ℕ
  pub verdict : ℕ
  pub id : List ℕ
  pub made : List ℕ

-- `usize::MAX`, which stands for no index
abbrev pub no_index : ℕ
no_index = 18446744073709551615

-- the index, or `no_index`
abbrev pub number_of_index : Option ℕ → ℕ
number_of_index None = no_index
number_of_index (Some index) = index

-- the text of a source that is an id, and empty for a name
abbrev pub id_text : Source → List ℕ
id_text (name n) = []
id_text (id i) = lower_of i

-- the text of a source
abbrev pub source_text : Source → List ℕ
source_text (name n) = n
source_text (id i) = lower_of i

-- a destination, or empty if it is missing
abbrev pub destination_text : Option (List ℕ) → List ℕ
destination_text None = []
destination_text (Some d) = d

-- 1 if there is a destination
abbrev pub destinations : Option (List ℕ) → ℕ
destinations None = 0
destinations (Some d) = 1

-- 1 if an instruction is forced
abbrev pub forced_by : Option Meaning → ℕ
forced_by None = 0
forced_by (Some m) = (parts_of m).forced

-- 1 if the instruction of a spec is forced
abbrev pub forced_of : Option Reading → ℕ
forced_of None = 0
forced_of (Some r) = forced_by (meaning_of r)

-- 1 if the spec with this index in the group is forced
abbrev pub forced_at : List Reading → ℕ → ℕ
forced_at g k = forced_of (slice_get g k)

-- the entry of a mapping from left to right, of which the spec makes the destination
abbrev pub forward_entry : List Reading → Mapped → Entry
forward_entry g m = record {
  spec = m.spec;
  item = number_of_index m.item;
  has_destination = destinations m.destination;
  forced = forced_at g m.spec;
  origin = 0;
  verdict = 0;
  id = id_text m.source;
  made = destination_text m.destination;
}

-- and of one from right to left, of which it makes the source
abbrev pub backward_entry : List Reading → Mapped → Entry
backward_entry g m = record {
  spec = m.spec;
  item = number_of_index m.item;
  has_destination =
      destinations m.destination;
  forced = forced_at g m.spec;
  origin = 0;
  verdict = 0;
  id = [];
  made =
      source_text m.source;
}

-- the texts of an entry
abbrev pub text_of : Entry → List ℕ
text_of e = e.id ++ e.made

-- the struct of a mapping as plain data: its texts are in the buffer, each with an offset and a length
pub record Described : Type 0 where
  pub spec : ℕ
  pub item : ℕ
  pub has_destination : ℕ
  pub forced : ℕ
  pub origin : ℕ
  pub verdict : ℕ
  pub id_at : ℕ
  pub id_len : ℕ
  pub made_at : ℕ
  pub made_len : ℕ

-- the entry with these numbers and texts
abbrev pub entry_with : Numbers → List ℕ → List ℕ → Entry
entry_with n digits made = record {
  spec = n.spec;
  item = n.item;
  has_destination = n.has_destination;
  forced =
      n.forced;
  origin = n.origin;
  verdict = n.verdict;
  id = digits;
  made = made;
}

-- a struct as plain data
abbrev pub described_by : MappingOut → Described
described_by m = record {
  spec = m.spec;
  item = m.item;
  has_destination = m.has_destination;
  forced = m.forced;
  origin =
      m.origin;
  verdict = m.verdict;
  id_at = m.id_at;
  id_len = m.id_len;
  made_at = m.made_at;
  made_len = m.made_len;
}

-- the struct of an entry whose texts begin at this offset of the buffer
abbrev pub described_at : ℕ → Entry → Described
described_at at e = record {
  spec = e.spec;
  item = e.item;
  has_destination = e.has_destination;
  forced = e.forced;
  origin = e.origin;
  verdict = e.verdict;
  id_at = at;
  id_len = length e.id;
  made_at = at + length e.id;
  made_len =
      length e.made;
}

-- the structs and the text are those of the entries
abbrev pub Describes : List Entry → List MappingOut → List ℕ → Type 0
Describes es structs text = AreLaidOut text_of described_at described_by es structs text

-- what a caller passes for an answer: two slices and two counts
pub record Room : Type 0 where
  pub mappings : List MappingOut
  pub buffer : List ℕ
  pub count : ℕ
  pub len : ℕ

-- the slices of the caller begin with the structs and the text, and are unchanged after them
pub record IsWritten (structs : List MappingOut) (text : List ℕ) (before after : Room) : Type 0 where
  pub fits : length structs ≤ length before.mappings
  pub text_fits : length text ≤ length before.buffer
  pub mappings : after.mappings ≡ structs ++ drop (length structs) before.mappings
  pub buffer : after.buffer ≡ text ++ drop (length text) before.buffer
  pub count : after.count ≡ length structs
  pub len : after.len ≡ length text

-- one of the slices is too small for the structs or for the text. Both are unchanged, and the counts are the required
-- sizes
pub record IsNotWritten (structs : List MappingOut) (text : List ℕ) (before after : Room) : Type 0 where
  pub small : (length before.mappings < length structs) ⊎ (length before.buffer < length text)
  pub mappings : after.mappings ≡ before.mappings
  pub buffer : after.buffer ≡ before.buffer
  pub count : after.count ≡ length structs
  pub len : after.len ≡ length text

-- the caller got the structs and the text of the entries
pub record HasAll (es : List Entry) (before after : Room) : Type 0 where
  pub structs : List MappingOut
  pub text : List ℕ
  pub describes : Describes es structs text
  pub write : IsWritten structs text before after

-- a slice of the caller is too small for them
pub record HasNoRoom (es : List Entry) (before after : Room) : Type 0 where
  pub structs : List MappingOut
  pub text : List ℕ
  pub describes : Describes es structs text
  pub not_write : IsNotWritten structs text before after

-- why a caller gets none of the entries: a slice is too small; or no memory can hold their texts, and all is unchanged
abbrev pub LacksRoom : List Entry → Room → Room → Failure → Type 0
LacksRoom es before after f = ((f ≡ failure.TooSmall) × HasNoRoom es before after)
    ⊎ ((f ≡ failure.NoMemory) × (after ≡ before))

-- why a caller gets no mappings: a slice is too small for entries of which Is holds; or Why holds of the failure, and
-- all is unchanged
abbrev pub LacksAll : (List Entry → Type 0) → (Failure → Type 0) → Room → Room → Failure → Type 0
LacksAll Is Why before after f = ((f ≡ failure.TooSmall) × (es : List Entry) × Is es × HasNoRoom es before after)
    ⊎ (Why f × (after ≡ before))
