-- What a clause reads of items, names and mappings.
use Rattle.std.specs.Prelude.{◌≡◌, ◌⊎◌, ℕ, List, Option, None, Some, option_map, MatchOption, encode_utf8_all}
use Rattle.std.specs.List.{AllZip}
use Rattle.bstr.specs.BStr.{bstr_bytes}
use Rattle.bstr.specs.Owned.{bstring_bytes}
use Rattle.gix_refspec_match.specs.declared.types.Item.{Item}
use Rattle.gix_refspec_match.specs.declared.types.NameRef.{NameRef}
use Rattle.gix_refspec_match.specs.declared.types.NameRef.TheVariants as name_ref
use Rattle.gix_refspec_match.specs.declared.types.SourceRef.{SourceRef}
use Rattle.gix_refspec_match.specs.declared.types.SourceRef.TheVariants as source_ref
use Rattle.gix_refspec_match.specs.declared.types.Mapping.{Mapping}
use Rattle.gix_refspec_text.specs.Texts.ObjectId.{id_bytes, lower_of}
use Rattle.gix_refspec_text.specs.Matching.Match.{Ref}
use Rattle.gix_refspec_match.specs.Matching.Mappings.{Source, name, id, Mapped}
use Rattle.bstr.specs.Utf8.{lossy_chars}

-- the bytes of a name
abbrev pub name_bytes : NameRef → List ℕ
name_bytes (name_ref.Borrowed n) = bstr_bytes n
name_bytes (name_ref.Owned n) = bstring_bytes n

-- what a mapping begins with
abbrev pub start_of : SourceRef → Source
start_of (source_ref.FullName n) = name (name_bytes n)
start_of (source_ref.ObjectId i) = id (id_bytes i)

-- the mapping as plain data
abbrev pub mapped_of : Mapping → Mapped
mapped_of m = record {
  item = m.item_index;
  source = start_of m.lhs;
  destination = option_map name_bytes m.rhs;
  spec =
      m.spec_index;
}

-- the ref that an item stands for
abbrev pub ref_of : Item → Ref
ref_of i = record {
  name = bstr_bytes i.full_ref_name;
  target = id_bytes i.target.now;
  object =
      option_map (λ o. id_bytes o.now) i.object;
}

-- the name is lent
abbrev pub IsBorrowed : NameRef → Type 0
IsBorrowed (name_ref.Borrowed n) = Unit {0}
IsBorrowed (name_ref.Owned n) = ⊥

-- the name is owned
abbrev pub IsOwned : NameRef → Type 0
IsOwned (name_ref.Borrowed n) = ⊥
IsOwned (name_ref.Owned n) = Unit {0}

-- the source is a name that is lent
abbrev pub IsLent : SourceRef → Type 0
IsLent (source_ref.FullName n) = IsBorrowed n
IsLent (source_ref.ObjectId i) = ⊥

-- the source is a name that is owned
abbrev pub IsOwnedSource : SourceRef → Type 0
IsOwnedSource (source_ref.FullName n) = IsOwned n
IsOwnedSource (source_ref.ObjectId i) = ⊥

-- the source or the destination is a name that is owned
abbrev pub HasOwned : Mapping → Type 0
HasOwned m = IsOwnedSource m.lhs ⊎ MatchOption m.rhs ⊥ IsOwned

-- both names are lent, or both are owned, and they have the same bytes
abbrev pub IsNameCopy : NameRef → NameRef → Type 0
IsNameCopy (name_ref.Borrowed n) (name_ref.Borrowed m) = bstr_bytes m ≡ bstr_bytes n
IsNameCopy (name_ref.Borrowed n) (name_ref.Owned m) = ⊥
IsNameCopy (name_ref.Owned n) (name_ref.Borrowed m) = ⊥
IsNameCopy (name_ref.Owned n) (name_ref.Owned m) = bstring_bytes m ≡ bstring_bytes n

-- the second source is a copy of the first
abbrev pub IsSourceCopy : SourceRef → SourceRef → Type 0
IsSourceCopy (source_ref.FullName n) (source_ref.FullName m) = IsNameCopy n m
IsSourceCopy (source_ref.FullName n) (source_ref.ObjectId j) = ⊥
IsSourceCopy (source_ref.ObjectId i) (source_ref.FullName m) = ⊥
IsSourceCopy (source_ref.ObjectId i) (source_ref.ObjectId j) = j ≡ i

-- the second destination is a copy of the first
abbrev pub IsDestinationCopy : Option NameRef → Option NameRef → Type 0
IsDestinationCopy None None = Unit {0}
IsDestinationCopy None (Some m) = ⊥
IsDestinationCopy (Some n) None = ⊥
IsDestinationCopy (Some n) (Some m) = IsNameCopy n m

-- the second mapping is a copy of the first
pub record IsMappingCopy (m copy : Mapping) : Type 0 where
  pub item : copy.item_index ≡ m.item_index
  pub source : IsSourceCopy m.lhs copy.lhs
  pub destination : IsDestinationCopy m.rhs copy.rhs
  pub spec : copy.spec_index ≡ m.spec_index

-- the second list has copies of the first one's mappings, in order
abbrev pub AreMappingCopies : List Mapping → List Mapping → Type 0
AreMappingCopies ms copies = AllZip IsMappingCopy ms copies

-- the text of a source: its name, with U+FFFD for what isn't UTF-8, or its id in lower case
abbrev pub text_of_source : SourceRef → List ℕ
text_of_source (source_ref.FullName n) = encode_utf8_all (lossy_chars (name_bytes n))
text_of_source (source_ref.ObjectId i) = lower_of (id_bytes i)
