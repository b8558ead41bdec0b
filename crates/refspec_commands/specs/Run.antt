-- What a run does to its reader and its writers.
use Rattle.std.specs.Prelude.{◌≡◌, ℕ, Bool, true, List, Option, ⊤}
use Rattle.std.specs.Io.KnownBytes.{Keeps}
use Rattle.refspec_io.specs.declared.fault.Fault.{Fault}
use Rattle.refspec_io.specs.declared.fault.Fault.TheVariants as fault
use Rattle.refspec_io.specs.Input.{ReadsToEnd}

-- a call that reads its input has read it to its end
abbrev pub ReadsWhole : Bool → Option (List ℕ) → Option (List ℕ) → Type 0
ReadsWhole reads old new = reads ≡ true → (input : List ℕ) × ReadsToEnd old new input

-- before a fault nothing was written, unless a writer failed
abbrev pub Leaves : Option (List ℕ) → Option (List ℕ) → Fault → Type 0
Leaves old new fault.Write = ⊤
Leaves old new _ = Keeps old new
