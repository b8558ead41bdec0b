-- The parsed input of the program, as plain data.
use Rattle.std.specs.Prelude.{◌≡◌, ℕ, List, [], ◌∷◌, ◌++◌, Option, None, Some, option_map, map, ⊤}
use Rattle.std.specs.List.{AllZip}
use Rattle.bstr.specs.BStr.{bstr_bytes}
use Rattle.gix_refspec_match.specs.declared.types.Item.{Item}
use Rattle.gix_refspec.specs.Texts.ObjectId.{id_bytes}
use Rattle.gix_refspec.specs.Matching.Match.{Ref}
use Rattle.gix_refspec.specs.Views.Spec.{reading_of}
use Rattle.refspec_map.specs.declared.line.ParsedRef.{ParsedRef}
use Rattle.refspec_map.specs.declared.line.Said.{Said}
use Rattle.refspec_map.specs.declared.line.Said.TheVariants as said
use Rattle.refspec_map.specs.declared.line.Entries.{Entries}
use Rattle.refspec_map.specs.Input.{AreLines}
use Rattle.refspec_map.specs.Line.{spec, item, Says, Entry, Gives, readings_in, refs_in}

-- a ref of the input, as plain data
abbrev pub parsed_ref : ParsedRef → Ref
parsed_ref r = record { name = bstr_bytes r.name; target = id_bytes r.target; object = option_map id_bytes r.object }

-- the ref with only its name
abbrev pub bare : Ref → Ref
bare r = record { name = r.name; target = []; object = None }

-- the ref of an item, with only its name
abbrev pub named : Item → Ref
named i = record { name = bstr_bytes i.full_ref_name; target = []; object = None }

-- the second id is the first one; with a blank, it may be any
abbrev pub IsReadAs : {A : Type 0} → Option A → List ℕ → List ℕ → Type 0
IsReadAs None id made = made ≡ id
IsReadAs (Some blank) id made = ⊤

-- the second ref is the first one; with a blank, it has the same name
abbrev pub IsSeenAs : {A : Type 0} → Option A → Ref → Ref → Type 0
IsSeenAs None r made = made ≡ r
IsSeenAs (Some blank) r made = bare made ≡ bare r

-- the parsed content of the line; with a blank, a ref may have any ids
abbrev pub IsSaidAs : {A : Type 0} → Option A → List ℕ → Said → Type 0
IsSaidAs blank line (said.Spec text) = Says line (spec (bstr_bytes text))
IsSaidAs blank line (said.Ref t) = (r : Ref) × Says line (item r) × IsSeenAs blank r (parsed_ref t)

-- what is kept of refs: everything; with a blank, only their names
abbrev pub seen : {A : Type 0} → Option A → List Ref → List Ref
seen None refs = refs
seen (Some blank) refs = map bare refs

-- the refs that the entries keep; with a blank, only their names
abbrev pub kept_refs : {A : Type 0} → Option A → Entries → List Ref
kept_refs None made = map parsed_ref made.refs.items
kept_refs (Some blank) made = map named made.items.items

-- the entry of the line was appended to the old entries
pub record Adds {A : Type 0} (blank : Option A) (line : List ℕ) (old new : Entries) : Type 0 where
  pub entry : Entry
  pub gives : Gives line entry
  pub specs : map reading_of new.specs.items ≡ map reading_of old.specs.items ++ readings_in (entry ∷ [])
  pub refs : kept_refs blank new ≡ kept_refs blank old ++ seen blank (refs_in (entry ∷ []))

-- the entries are those of all lines of the input, in order
pub record AreEntries {A : Type 0} (blank : Option A) (input : List ℕ) (made : Entries) : Type 0 where
  pub lines : List (List ℕ)
  pub entries : List Entry
  pub split : AreLines lines input
  pub given : AllZip Gives lines entries
  pub specs : map reading_of made.specs.items ≡ readings_in entries
  pub refs : kept_refs blank made ≡ seen blank (refs_in entries)
