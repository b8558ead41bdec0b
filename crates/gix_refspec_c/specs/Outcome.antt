-- What a call returns: 0, or the number of a failure. The numbers are this project's own, and are those of
-- include/gix_refspec.h.
use Rattle.std.specs.Prelude.{◌≡◌, ℕ, Result, Ok, Err, OnOk, IfErr}
use Rattle.gix_refspec_text.specs.declared.name.Error.{Error as NameError}
use Rattle.gix_refspec_text.specs.declared.name.Error.TheVariants as of_name
use Rattle.gix_refspec.specs.Specs.Refusal.{Refusal, Empty, NegativeWithDestination, PushToEmpty, PatternUnsupported}
use Rattle.gix_refspec.specs.Specs.Refusal.{ReferenceName, PatternUnbalanced, NegativeEmpty, NegativeObjectHash}
use Rattle.gix_refspec_c.specs.declared.failure.Failure.{Failure}
use Rattle.gix_refspec_c.specs.declared.failure.Failure.TheVariants as failure

-- the number of a failure
abbrev pub number_of : Failure → ℕ
number_of failure.Empty = 1
number_of failure.NegativeWithDestination = 2
number_of failure.NegativeEmpty = 3
number_of failure.NegativeObjectHash = 4
number_of failure.PushToEmpty = 5
number_of failure.PatternUnsupported = 6
number_of failure.PatternUnbalanced = 7
number_of failure.NameEmpty = 8
number_of failure.NameEmptyComponent = 9
number_of failure.NameStartsWithDot = 10
number_of failure.NameLockSuffix = 11
number_of failure.NameEndsWithDot = 12
number_of failure.NameRepeatedDot = 13
number_of failure.NameReflogPortion = 14
number_of failure.NameAsterisk = 15
number_of failure.NameInvalidByte = 16
number_of failure.NoList = 17
number_of failure.TooSmall = 18
number_of failure.NoMemory = 19
number_of failure.NoOperation = 20
number_of failure.NeedsIds = 21
number_of failure.InConflict = 22
number_of failure.MissingSource = 23
number_of failure.InvalidId = 24
number_of failure.OtherParts = 25

-- the failure that reports a fault of a name
abbrev pub of_fault : NameError → Failure
of_fault of_name.Empty = failure.NameEmpty
of_fault of_name.EmptyComponent = failure.NameEmptyComponent
of_fault of_name.StartsWithDot = failure.NameStartsWithDot
of_fault of_name.LockSuffix = failure.NameLockSuffix
of_fault of_name.EndsWithDot = failure.NameEndsWithDot
of_fault of_name.RepeatedDot = failure.NameRepeatedDot
of_fault of_name.ReflogPortion = failure.NameReflogPortion
of_fault of_name.Asterisk = failure.NameAsterisk
of_fault (of_name.InvalidByte b) = failure.NameInvalidByte

-- the failure that reports a refusal
abbrev pub of_refusal : Refusal → Failure
of_refusal Empty = failure.Empty
of_refusal NegativeWithDestination = failure.NegativeWithDestination
of_refusal PushToEmpty = failure.PushToEmpty
of_refusal (PatternUnsupported pattern) = failure.PatternUnsupported
of_refusal (ReferenceName fault) = of_fault fault
of_refusal PatternUnbalanced = failure.PatternUnbalanced
of_refusal NegativeEmpty = failure.NegativeEmpty
of_refusal NegativeObjectHash = failure.NegativeObjectHash

-- the outcome of a success is 0, and otherwise the number of the failure
abbrev pub IsNumberOf : Result (Unit {0}) Failure → ℕ → Type 0
IsNumberOf (Ok done) n = n ≡ 0
IsNumberOf (Err f) n = n ≡ number_of f

-- either Done holds and the call returns 0, or Fails holds of a failure and the call returns its number
abbrev pub Concludes : Type 0 → (Failure → Type 0) → ℕ → Type 0
Concludes Done Fails outcome = (r : Result (Unit {0}) Failure) × IsNumberOf r outcome × OnOk r Done × IfErr r Fails

-- if the code stands for some x, such as an operation, either Done holds of x and the call returns 0, or Fails holds of
-- x and a failure and the call returns its number; if the code is unknown, Same holds and the call returns the number
-- of `NoOperation`
pub data Answers {X : Type 0} (code_of : X → ℕ) (code : ℕ) (Done : X → Type 0) (Fails : X → Failure → Type 0)
    (Same : Type 0) (outcome : ℕ) : Type 0 where
  done : (x : X) → code ≡ code_of x → outcome ≡ 0 → Done x → Answers code_of code Done Fails Same outcome
  fails : (x : X) → code ≡ code_of x → (f : Failure) → outcome ≡ number_of f → Fails x f
      → Answers code_of code Done Fails Same outcome
  unknown : ((x : X) → ¬ (code ≡ code_of x)) → outcome ≡ number_of failure.NoOperation → Same
      → Answers code_of code Done Fails Same outcome
