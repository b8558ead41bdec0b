-- Answers that are written to a buffer, and failures that write nothing.
use Rattle.std.proofs.Common.{◌≡◌, ◌≢◌, ℕ, List, Result, Err, OnOk, IfErr, refl}
use Rattle.std.proofs.lemmas.Result.{on_ok_weaker}
use Rattle.gix_refspec_c.specs.declared.failure.Failure.{Failure}
use Rattle.gix_refspec_c.specs.declared.failure.Failure.TheVariants as failure
use Rattle.gix_refspec_c.specs.Buffer.{IsTooSmall, IsWrittenTo, WritesNothing}
use Rattle.gix_refspec_c.specs.Outcome.{Answers, fails, Concludes, IsNumberOf, number_of}
use Rattle.gix_refspec_c.proofs.OutcomeLemmas.{answered}
use Rattle.gix_refspec_c.proofs.SingleLemmas.{too_small}

module _ (Is : List ℕ → Type 0) (Why : Failure → Type 0) where
  -- a failure other than that of a small buffer leaves all as it was
  nothing_written : (old : List ℕ) (len : ℕ) (f : Failure) → f ≢ failure.TooSmall → Why f
      → WritesNothing Is Why old old len len f
  nothing_written old len failure.Empty other why = (why, refl, refl)
  nothing_written old len failure.NegativeWithDestination other why = (why, refl, refl)
  nothing_written old len failure.NegativeEmpty other why = (why, refl, refl)
  nothing_written old len failure.NegativeObjectHash other why = (why, refl, refl)
  nothing_written old len failure.PushToEmpty other why = (why, refl, refl)
  nothing_written old len failure.PatternUnsupported other why = (why, refl, refl)
  nothing_written old len failure.PatternUnbalanced other why = (why, refl, refl)
  nothing_written old len failure.NameEmpty other why = (why, refl, refl)
  nothing_written old len failure.NameEmptyComponent other why = (why, refl, refl)
  nothing_written old len failure.NameStartsWithDot other why = (why, refl, refl)
  nothing_written old len failure.NameLockSuffix other why = (why, refl, refl)
  nothing_written old len failure.NameEndsWithDot other why = (why, refl, refl)
  nothing_written old len failure.NameRepeatedDot other why = (why, refl, refl)
  nothing_written old len failure.NameReflogPortion other why = (why, refl, refl)
  nothing_written old len failure.NameAsterisk other why = (why, refl, refl)
  nothing_written old len failure.NameInvalidByte other why = (why, refl, refl)
  nothing_written old len failure.NoList other why = (why, refl, refl)
  nothing_written old len failure.TooSmall other why = absurd (other refl)
  nothing_written old len failure.NoMemory other why = (why, refl, refl)
  nothing_written old len failure.NoOperation other why = (why, refl, refl)
  nothing_written old len failure.NeedsIds other why = (why, refl, refl)
  nothing_written old len failure.InConflict other why = (why, refl, refl)
  nothing_written old len failure.MissingSource other why = (why, refl, refl)
  nothing_written old len failure.InvalidId other why = (why, refl, refl)
  nothing_written old len failure.OtherParts other why = (why, refl, refl)

  module _ (old new answer : List ℕ) (before after : ℕ) (r : Result (Unit {0}) Failure) (n : ℕ) (is : Is answer)
      (number : IsNumberOf r n) (ok : OnOk r (IsWrittenTo answer old new after))
      (small : IfErr r (λ f. (f ≡ failure.TooSmall) × IsTooSmall answer old new after)) where
    -- the answer is written
    pub concluded : Concludes ((a : List ℕ) × Is a × IsWrittenTo a old new after)
        (WritesNothing Is Why old new before after) n
    concluded = (
      r,
      number,
      on_ok_weaker r (λ write. (answer, is, write)) ok,
      too_small Is Why answer old new before after r is small,
    )

  -- there is no answer
  pub refused : (old : List ℕ) (len n : ℕ) (f : Failure) → n ≡ number_of f → f ≢ failure.TooSmall → Why f
      → Concludes ((a : List ℕ) × Is a × IsWrittenTo a old old len) (WritesNothing Is Why old old len len) n
  refused old len n f number other why = (Err f, number, tt, nothing_written old len f other why)

module _ {X : Type 0} (code_of : X → ℕ) (code : ℕ) (Is : X → List ℕ → Type 0) (Why : X → Failure → Type 0)
    (Same : Type 0) (x : X) (known : code ≡ code_of x) where
  -- the answer for a known code is written
  pub answered_with : (old new answer : List ℕ) (before after : ℕ) (r : Result (Unit {0}) Failure) (n : ℕ) → Is x answer
      → IsNumberOf r n → OnOk r (IsWrittenTo answer old new after)
      → IfErr r (λ f. (f ≡ failure.TooSmall) × IsTooSmall answer old new after)
      → Answers code_of code (λ x. (a : List ℕ) × Is x a × IsWrittenTo a old new after)
      (λ x. WritesNothing (Is x) (Why x) old new before after) Same n
  answered_with old new answer before after r n is number ok small =
      answered code_of code (λ x. (a : List ℕ) × Is x a × IsWrittenTo a old new after)
      (λ x. WritesNothing (Is x) (Why x) old new before after) Same x r n known number
      (on_ok_weaker r (λ write. (answer, is, write)) ok)
      (too_small (Is x) (Why x) answer old new before after r is small)

  -- there is none for it
  pub answered_by_none : (old : List ℕ) (len n : ℕ) (f : Failure) → n ≡ number_of f → f ≢ failure.TooSmall → Why x f
      → Answers code_of code (λ x. (a : List ℕ) × Is x a × IsWrittenTo a old old len)
      (λ x. WritesNothing (Is x) (Why x) old old len len) Same n
  answered_by_none old len n f number other why =
      fails x known f number (nothing_written (Is x) (Why x) old len f other why)
