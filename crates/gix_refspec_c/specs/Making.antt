-- Refspecs made of the mode and the sides that a caller gives, in the words of gix_refspec_remote.
use Rattle.std.specs.Prelude.{◌≡◌, ◌==◌, ℕ, List, Bool, true, false, Option, None, Some}
use Rattle.gix_refspec_text.specs.declared.parsing.Operation.{Operation}
use Rattle.gix_refspec.specs.Specs.Reading.{Mode, Reading}
use Rattle.gix_refspec.specs.Specs.Grammar.{AreParts, Reads}
use Rattle.gix_refspec.specs.Specs.Refusal.{Refusal, IsRefused}
use Rattle.gix_refspec.specs.Specs.Meaning.{printed}
use Rattle.gix_refspec_remote.specs.Parts.{text_with}
use Rattle.gix_refspec_c.specs.declared.failure.Failure.{Failure}
use Rattle.gix_refspec_c.specs.declared.failure.Failure.TheVariants as failure
use Rattle.gix_refspec_c.specs.Outcome.{of_refusal}
use Rattle.gix_refspec_c.specs.Sides.{SidesShown, mode_code, side_text}

-- a side, unless it is missing
abbrev pub side_unless : Bool → List ℕ → Option (List ℕ)
side_unless true side = None
side_unless false side = Some side

-- a side that a caller gives: the number 0 says that it is missing
abbrev pub side_given : ℕ → List ℕ → Option (List ℕ)
side_given present side = side_unless (present == 0) side

-- the source that is written, of which a missing one is empty
abbrev pub source_given : SidesShown → List ℕ
source_given s = side_text (side_given s.has_source s.source)

-- the destination, which is written after a colon if it is there
abbrev pub destination_given : SidesShown → Option (List ℕ)
destination_given s = side_given s.has_destination s.destination

-- no mode has this number
abbrev pub IsNoMode : ℕ → Type 0
IsNoMode number = (mode : Mode) → ¬ (number ≡ mode_code mode)

-- the text with this mode and these sides has no others, and reads as r
pub record IsMade (op : Operation) (mode : Mode) (s : List ℕ) (d : Option (List ℕ)) (r : Reading) : Type 0 where
  pub apart : AreParts mode s d (text_with mode s d)
  pub reads : Reads op (text_with mode s d) r

-- why no refspec is made of them: that text has others; it has not, and is refused; or memory ran out
pub data IsUnmade (op : Operation) (mode : Mode) (s : List ℕ) (d : Option (List ℕ)) (f : Failure) : Type 0 where
  other_parts : f ≡ failure.OtherParts → ¬ (AreParts mode s d (text_with mode s d)) → IsUnmade op mode s d f
  refused : (e : Refusal) → f ≡ of_refusal e → AreParts mode s d (text_with mode s d)
      → IsRefused op (text_with mode s d) e → IsUnmade op mode s d f
  out_of_memory : f ≡ failure.NoMemory → IsUnmade op mode s d f

-- the answer is the canonical text of the refspec with the mode and the sides of the caller
pub record IsMadeOf (op : Operation) (sides : SidesShown) (answer : List ℕ) : Type 0 where
  pub mode : Mode
  pub number : sides.mode ≡ mode_code mode
  pub reading : Reading
  pub made : IsMade op mode (source_given sides) (destination_given sides) reading
  pub is : printed reading ≡ Some answer

-- why there is none: the mode is unknown, or no refspec is made
pub data IsUnmadeOf (op : Operation) (sides : SidesShown) (f : Failure) : Type 0 where
  no_mode : f ≡ failure.NoOperation → IsNoMode sides.mode → IsUnmadeOf op sides f
  unmade : (mode : Mode) → sides.mode ≡ mode_code mode
      → IsUnmade op mode (source_given sides) (destination_given sides) f → IsUnmadeOf op sides f
