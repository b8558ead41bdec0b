-- The mode and the sides of a text, as a caller receives them.
use Rattle.std.specs.Prelude.{◌≡◌, ℕ, List, [], Option, None, Some}
use Rattle.gix_refspec_text.specs.declared.parsing.Operation.{Operation}
use Rattle.gix_refspec.specs.Specs.Reading.{Mode, Normal, Forced, Negative, Reading}
use Rattle.gix_refspec.specs.Specs.Grammar.{Reads}
use Rattle.gix_refspec_c.specs.declared.sides.Sides.{Sides}

-- the number of a mode
abbrev pub mode_code : Mode → ℕ
mode_code Normal = 1
mode_code Forced = 2
mode_code Negative = 3

-- 1 if a side is present
abbrev pub presence : Option (List ℕ) → ℕ
presence None = 0
presence (Some side) = 1

-- a side, or empty if it is missing
abbrev pub side_text : Option (List ℕ) → List ℕ
side_text None = []
side_text (Some side) = side

-- what a caller gets of a reading: the number of its mode, which sides are present, and the sides
pub record SidesShown : Type 0 where
  pub mode : ℕ
  pub has_source : ℕ
  pub has_destination : ℕ
  pub source : List ℕ
  pub destination : List ℕ

abbrev pub sides_of : Reading → SidesShown
sides_of r = record {
  mode = mode_code r.mode;
  has_source = presence r.source;
  has_destination = presence r.destination;
  source = side_text r.source;
  destination = side_text r.destination;
}

-- the same, in the struct of the caller
abbrev pub sides_in : Sides → SidesShown
sides_in s = record {
  mode = s.mode;
  has_source = s.has_source;
  has_destination = s.has_destination;
  source = s.source.now;
  destination = s.destination.now;
}

-- the text is a refspec for the operation, with this mode and these sides
pub record HasSides (op : Operation) (text : List ℕ) (sides : SidesShown) : Type 0 where
  pub reading : Reading
  pub reads : Reads op text reading
  pub is : sides ≡ sides_of reading
