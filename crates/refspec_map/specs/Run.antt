-- What a run of a command does to its reader and its writer.
use Rattle.std.specs.Prelude.{◌≡◌, ◌≢◌, ℕ, Bool, false, List, Option, if◌then◌else◌, ⊤}
use Rattle.std.specs.Io.KnownBytes.{Appends, Keeps}
use Rattle.gix_refspec_text.specs.declared.parsing.Operation.TheVariants.{Fetch, Push}
use Rattle.refspec_map.specs.declared.command.Command.{Command}
use Rattle.refspec_map.specs.declared.command.Command.TheVariants as command
use Rattle.refspec_map.specs.declared.fault.Fault.{Fault}
use Rattle.refspec_map.specs.declared.fault.Fault.TheVariants as fault
use Rattle.gix_refspec_text.specs.declared.parsing.Error.{Error}
use Rattle.gix_refspec_text.specs.declared.parsing.Error.TheVariants.{Memory}
use Rattle.gix_refspec.specs.Specs.Refusal.{IsRefused}
use Rattle.gix_refspec.specs.Views.Instruction.{ShowsRefusal}
use Rattle.gix_refspec.specs.Matching.Hits.{AreKeptForward, AreKeptBackward}
use Rattle.refspec_map.specs.Input.{IsTooLong, ReadsToEnd}
use Rattle.refspec_map.specs.Line.{IsFirstFault}
use Rattle.refspec_map.specs.Matching.{AreMapLines, IsMatching}
use Rattle.refspec_map.specs.Output.{IsCanon}
use Rattle.refspec_map.specs.Plan.{IsPlan, WritesOnce}

-- the output of a command for an input, and whether some line is refused or a plan has conflicts
abbrev pub IsOutput : Command → List ℕ → List ℕ → Bool → Type 0
IsOutput command.CanonFetch input output refusal = IsCanon Fetch input output refusal
IsOutput command.CanonPush input output refusal = IsCanon Push input output refusal
IsOutput command.Lhs input output refusal = IsMatching (AreMapLines AreKeptForward) input output refusal
IsOutput command.Rhs input output refusal = IsMatching (AreMapLines AreKeptBackward) input output refusal
IsOutput command.Plan input output refusal = IsMatching IsPlan input output refusal

-- the fault of an input: that of its first bad line. To a canon command no line is bad
abbrev pub IsBad : Command → List ℕ → Fault → Type 0
IsBad command.CanonFetch input f = ⊥
IsBad command.CanonPush input f = ⊥
IsBad command.Lhs input f = IsFirstFault input f
IsBad command.Rhs input f = IsFirstFault input f
IsBad command.Plan input f = IsFirstFault input f

-- the input was read to its end, its output was written, and the exit status shows a refusal or conflict
pub record Answers (command : Command) (reader_old reader_new writer_old writer_new : Option (List ℕ)) (status : ℕ) :
    Type 0 where
  pub input : List ℕ
  pub output : List ℕ
  pub refusal : Bool
  pub read : ReadsToEnd reader_old reader_new input
  pub is : IsOutput command input output refusal
  pub written : Appends writer_old writer_new output
  pub tells : status ≡ (if refusal then 1 else 0)

-- the input was read to its end, and has no fault
pub record IsGood (command : Command) (old new : Option (List ℕ)) : Type 0 where
  pub input : List ℕ
  pub read : ReadsToEnd old new input
  pub good : (f : Fault) → ¬ (IsBad command input f)

-- when each fault is returned
abbrev pub Explains : Command → Option (List ℕ) → Option (List ℕ) → Fault → Type 0
Explains command old new fault.TooLong = IsTooLong old new
Explains command old new fault.Read = ⊤
Explains command old new (fault.Line number) = (input : List ℕ) × ReadsToEnd old new input
    × IsBad command input (fault.Line number)
Explains command old new (fault.Spec number error) = (input : List ℕ) × ReadsToEnd old new input
    × IsBad command input (fault.Spec number error)
Explains command old new fault.Memory = ⊤
Explains command old new fault.Write = ⊤

-- what was written before a fault: nothing, unless the writer failed
abbrev pub Leaves : Option (List ℕ) → Option (List ℕ) → Fault → Type 0
Leaves old new fault.Write = ⊤
Leaves old new _ = Keeps old new

-- a plan with exit status 0 writes no destination from two sources, and no duplicate line
abbrev pub PlanOnce : Type 0
PlanOnce = (reader_old reader_new writer_old writer_new : Option (List ℕ))
    → Answers command.Plan reader_old reader_new writer_old writer_new 0
    → (input : List ℕ) × (output : List ℕ) × ReadsToEnd reader_old reader_new input
    × Appends writer_old writer_new output × IsMatching (λ g items written refusal. WritesOnce g items written)
    input output false

-- the error in the fault of a spec is the first reason that applies to some text, and never `Memory`
abbrev pub SpecIsRefused : Type 0
SpecIsRefused = (command : Command) (old new : Option (List ℕ)) (number : ℕ) (error : Error)
    → Explains command old new (fault.Spec number error) → (error ≢ Memory) × (text : List ℕ)
    × ShowsRefusal (IsRefused Fetch text) error
