-- What a matching command writes: a line for each kept mapping. The form of the line is this project's own
-- rule.
use Rattle.std.specs.Prelude.{◌≡◌, ℕ, Bool, false, List, [], ◌∷◌, ◌++◌, Option, None, Some, codes, decimal}
use Rattle.std.specs.List.{AllZip, flat_map}
use Rattle.gix_refspec.specs.Texts.ObjectId.{lower_of}
use Rattle.gix_refspec.specs.Specs.Reading.{Reading}
use Rattle.gix_refspec.specs.Matching.Match.{Ref}
use Rattle.gix_refspec.specs.Matching.Mappings.{Source, name, id, Mapped}
use Rattle.refspec_map.specs.Input.{newline, AreLines}
use Rattle.refspec_map.specs.Line.{Entry, Gives, readings_in, refs_in}

abbrev pub tab : ℕ
tab = 9

-- the index of an item, or `-` without one
abbrev pub item_text : Option ℕ → List ℕ
item_text None = codes "-"
item_text (Some place) = decimal place

-- a name, or an id in lower case
abbrev pub source_text : Source → List ℕ
source_text (name n) = n
source_text (id i) = lower_of i

-- a tab and the destination, if there is one
abbrev pub destination_text : Option (List ℕ) → List ℕ
destination_text None = []
destination_text (Some d) = tab ∷ d

-- the line of a mapping: `map`, the indexes of its spec and its item, its source and its destination, with
-- tabs between
abbrev pub map_line : Mapped → List ℕ
map_line m = codes "map\t"
    ++ (decimal m.spec
    ++ (tab ∷ (item_text m.item
    ++ (tab ∷ (source_text m.source ++ (destination_text m.destination ++ (newline ∷ [])))))))

-- the output for the specs and refs of an input: a line for each kept mapping, and nothing is refused
pub record AreMapLines (AreKept : List Reading → List Ref → List Mapped → Type 0) (g : List Reading) (items : List Ref)
    (output : List ℕ) (refusal : Bool) : Type 0 where
  pub mappings : List Mapped
  pub kept : AreKept g items mappings
  pub written : output ≡ flat_map map_line mappings
  pub tells : refusal ≡ false

-- each line of the input adds an entry, and Writes relates their specs and refs to the output
pub record IsMatching (Writes : List Reading → List Ref → List ℕ → Bool → Type 0) (input output : List ℕ)
    (refusal : Bool) : Type 0 where
  pub lines : List (List ℕ)
  pub entries : List Entry
  pub split : AreLines lines input
  pub given : AllZip Gives lines entries
  pub is : Writes (readings_in entries) (refs_in entries) output refusal
