-- The texts of specs of a call, and their locations. This project's own rule: those among its arguments, those of the
-- file of specs, and those of the input; for a plan the configured ones in the place of the input, whose records are
-- refs. A file or an input has one text per record, or, if its records are settings, the refspecs among these.
-- Arguments and records are counted from 1.
use Rattle.std.specs.Prelude.{◌≡◌, ◌⊎◌, ℕ, ◌+◌, List, [], ◌∷◌, ◌++◌, length, map, MatchOption}
use Rattle.gix_refspec_text.specs.declared.parsing.Operation.{Operation}
use Rattle.refspec_io.specs.declared.call.Call.{Call}
use Rattle.refspec_io.specs.declared.call.Command.{Command}
use Rattle.refspec_io.specs.declared.call.Files.{Files}
use Rattle.refspec_io.specs.declared.call.Command.TheVariants as command
use Rattle.refspec_io.specs.declared.call.Terminator.{Terminator}
use Rattle.refspec_io.specs.declared.call.Terminator.TheVariants as ends
use Rattle.refspec_io.specs.declared.texts.Location.{Location}
use Rattle.refspec_io.specs.declared.texts.Location.TheVariants as location
use Rattle.refspec_io.specs.declared.texts.Text.{Text}
use Rattle.refspec_io.specs.declared.settings.Setting.{Setting}
use Rattle.refspec_io.specs.Input.{AreRecords}
use Rattle.refspec_io.specs.Settings.{AreSettings, HoldsSpecs}

-- a location: the spec with a number among the arguments, the record with a number of an input, or a setting of a file
pub data Spot : Type 0 where
  at_argument : ℕ → Spot
  at_record : (input : List ℕ) → ℕ → Spot
  at_setting : (file key : List ℕ) → Spot

-- a `Location` with its names as bytes
abbrev pub spot_of : Location → Spot
spot_of (location.Argument number) = at_argument number
spot_of (location.Record input number) = at_record input.now number
spot_of (location.Setting origin key) = at_setting origin.now key.now

-- a text: its location, the operation that it is read for, and its bytes
pub record Given : Type 0 where
  pub spot : Spot
  pub operation : Operation
  pub bytes : List ℕ

abbrev pub given_of : Text → Given
given_of t = record { spot = spot_of t.location; operation = t.operation; bytes = t.bytes.now }

-- the operation that a text is read for, and its bytes
abbrev pub said : Given → Operation × List ℕ
said t = (t.operation, t.bytes)

-- the text of the argument with a number, and of the record of an input with a number
abbrev pub argument_at : Operation → ℕ → List ℕ → Given
argument_at op number bytes = record { spot = at_argument number; operation = op; bytes = bytes }

abbrev pub record_at : List ℕ → Operation → ℕ → List ℕ → Given
record_at input op number bytes = record { spot = at_record input number; operation = op; bytes = bytes }

-- the texts that give makes of elements and their numbers, counted from k
abbrev pub numbered : (ℕ → List ℕ → Given) → ℕ → List (List ℕ) → List Given
numbered give k [] = []
numbered give k (bytes ∷ all) = give k bytes ∷ numbered give (k + 1) all

-- the texts grew by the records of the input with this name
abbrev pub AddsRecords : ℕ → Operation → List ℕ → List ℕ → List Given → List Given → Type 0
AddsRecords end op name input old new =
    (records : List (List ℕ)) × AreRecords end records input × (new ≡ old ++ numbered (record_at name op) 1 records)

-- the text is the refspec of a setting: its key is one of refspecs, and its value the text
pub record IsValue (s : Setting) (t : Given) : Type 0 where
  pub holds : HoldsSpecs s.key.now t.operation
  pub at : t.spot ≡ at_setting s.origin.now s.key.now
  pub value : MatchOption s.value ⊥ (λ value. t.bytes ≡ value.now)

-- the refspecs among settings, in order
abbrev pub AreValues : List Setting → List Given → Type 0
AreValues [] texts = texts ≡ []
AreValues (s ∷ settings) texts =
    ((text : Given) × (more : List Given) × IsValue s text × AreValues settings more × (texts ≡ text ∷ more))
    ⊎ (((text : Given) → ¬ (IsValue s text)) × AreValues settings texts)

-- the texts grew by the refspecs among settings
abbrev pub AddsValues : List Setting → List Given → List Given → Type 0
AddsValues settings old new = (values : List Given) × AreValues settings values × (new ≡ old ++ values)

-- the texts grew by those of an input, given what ends its records
abbrev pub AddsTexts : Terminator → Operation → List ℕ → List ℕ → List Given → List Given → Type 0
AddsTexts ends.Newline op name input old new = AddsRecords 10 op name input old new
AddsTexts ends.Zero op name input old new = AddsRecords 0 op name input old new
AddsTexts ends.Settings op name input old new = (settings : List Setting) × AreSettings input settings
    × AddsValues settings old new

-- the texts grew by those of a file of specs, if its records aren't settings
abbrev pub AddsGiven : Terminator → Operation → List ℕ → List ℕ → List Given → List Given → Type 0
AddsGiven ends.Newline op name input old new = AddsRecords 10 op name input old new
AddsGiven ends.Zero op name input old new = AddsRecords 0 op name input old new
AddsGiven ends.Settings op name input old new = new ≡ old

-- what a command reads as specs besides its arguments and the file of specs
abbrev pub spec_input : Command → (configured input : List ℕ) → List ℕ
spec_input command.Plan configured input = configured
spec_input command.Stale configured input = []
spec_input command.Why configured input = []
spec_input _ configured input = input

-- the name of that
abbrev pub name_for : Command → (configured input : List ℕ) → List ℕ
name_for command.Plan configured input = configured
name_for _ configured input = input

abbrev pub spec_name : Call → List ℕ
spec_name call = name_for call.command call.configured.now call.input.now

-- the specs among the arguments of a call, each a text
abbrev pub words_of : Call → List Given
words_of call = numbered (argument_at call.operation) 1 (map (λ w. w.now) call.specs.items)

-- the texts of a call: those among its arguments, of the file of specs, and of what else it reads as specs
abbrev pub AreTexts : Call → Files → List ℕ → List Given → Type 0
AreTexts call files input texts =
    (front : List Given) × AddsTexts call.ends call.operation call.beside.now files.specs.now (words_of call) front
    × AddsTexts call.ends call.operation (spec_name call) (spec_input call.command files.configured.now input) front
    texts

-- so many of the first texts of a call are given: those among its arguments and in the file of specs. The others are
-- configured, and so are all settings
abbrev pub IsGivenCount : Call → List ℕ → ℕ → Type 0
IsGivenCount call specs n = (front : List Given) × AddsGiven call.ends call.operation call.beside.now specs
    (words_of call) front × (n ≡ length front)
