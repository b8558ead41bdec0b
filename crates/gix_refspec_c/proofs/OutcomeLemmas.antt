-- Outcomes, and why a text wasn't read.
use Rattle.std.proofs.Common.{◌≡◌, ◌≢◌, ℕ, List, Result, Ok, Err, OnOk, IfErr, refl, sym, subst}
use Rattle.gix_refspec_text.specs.declared.parsing.Operation.{Operation}
use Rattle.gix_refspec_text.specs.declared.parsing.Error.{Error}
use Rattle.gix_refspec_text.specs.declared.parsing.Error.TheVariants as error
use Rattle.gix_refspec_text.specs.declared.name.Error.{Error as NameError}
use Rattle.gix_refspec_text.specs.declared.name.Error.TheVariants as of_name
use Rattle.gix_refspec.specs.Specs.Refusal.{Refusal, Empty, NegativeWithDestination, PushToEmpty, PatternUnsupported}
use Rattle.gix_refspec.specs.Specs.Refusal.{ReferenceName, PatternUnbalanced, NegativeEmpty, NegativeObjectHash}
use Rattle.gix_refspec.specs.Specs.Refusal.{IsRefused, MayNeedMemory}
use Rattle.gix_refspec.specs.Views.Instruction.{IsShownAs, ShowsRefusal}
use Rattle.gix_refspec_c.specs.declared.failure.Failure.{Failure}
use Rattle.gix_refspec_c.specs.declared.failure.Failure.TheVariants as failure
use Rattle.gix_refspec_c.specs.Outcome.{Answers, done, fails, IsNumberOf, of_fault, of_refusal}
use Rattle.gix_refspec_c.specs.Reading.{IsUnread}

-- a result of a call, and its number, are an answer
pub answered : {X : Type 0} (code_of : X → ℕ) (code : ℕ) (Done : X → Type 0) (Fails : X → Failure → Type 0)
    (Same : Type 0) (x : X) (r : Result (Unit {0}) Failure) (n : ℕ) → code ≡ code_of x → IsNumberOf r n
    → OnOk r (Done x) → IfErr r (Fails x) → Answers code_of code Done Fails Same n
answered code_of code Done Fails Same x (Ok u) n is number ok err = done x is number ok
answered code_of code Done Fails Same x (Err f) n is number ok err = fails x is f number err

-- the failure of an invalid name is that of its fault
named : (op : Operation) (text : List ℕ) (fault : NameError) → IsRefused op text (ReferenceName fault)
    → IsUnread op text (of_fault fault)
named op text of_name.Empty is = (ReferenceName of_name.Empty, is, refl)
named op text of_name.EmptyComponent is = (ReferenceName of_name.EmptyComponent, is, refl)
named op text of_name.StartsWithDot is = (ReferenceName of_name.StartsWithDot, is, refl)
named op text of_name.LockSuffix is = (ReferenceName of_name.LockSuffix, is, refl)
named op text of_name.EndsWithDot is = (ReferenceName of_name.EndsWithDot, is, refl)
named op text of_name.RepeatedDot is = (ReferenceName of_name.RepeatedDot, is, refl)
named op text of_name.ReflogPortion is = (ReferenceName of_name.ReflogPortion, is, refl)
named op text of_name.Asterisk is = (ReferenceName of_name.Asterisk, is, refl)
named op text (of_name.InvalidByte b) is = (ReferenceName (of_name.InvalidByte b), is, refl)

-- the failure of a refusal
refused : (op : Operation) (text : List ℕ) (e : Refusal) → IsRefused op text e → IsUnread op text (of_refusal e)
refused op text Empty is = (Empty, is, refl)
refused op text NegativeWithDestination is = (NegativeWithDestination, is, refl)
refused op text PushToEmpty is = (PushToEmpty, is, refl)
refused op text (PatternUnsupported pattern) is = (PatternUnsupported pattern, is, refl)
refused op text (ReferenceName fault) is = named op text fault is
refused op text PatternUnbalanced is = (PatternUnbalanced, is, refl)
refused op text NegativeEmpty is = (NegativeEmpty, is, refl)
refused op text NegativeObjectHash is = (NegativeObjectHash, is, refl)

by_refusal : (op : Operation) (text : List ℕ) (e : Error) (f : Failure)
    → ((r : Refusal) → IsShownAs e r → f ≡ of_refusal r) → ShowsRefusal (IsRefused op text) e → IsUnread op text f
by_refusal op text e f describes shows = subst (IsUnread op text) (sym (describes shows.0 shows.1))
    (refused op text shows.0 shows.2)

-- the failure of an error says why the text wasn't read
pub unread : (op : Operation) (text : List ℕ) (e : Error) (f : Failure)
    → (e ≢ error.Memory → ShowsRefusal (IsRefused op text) e) → (e ≡ error.Memory → MayNeedMemory op text)
    → ((r : Refusal) → IsShownAs e r → f ≡ of_refusal r) → (e ≡ error.Memory → f ≡ failure.NoMemory)
    → IsUnread op text f
unread op text error.Memory f shows memory describes none = subst (IsUnread op text) (sym (none refl)) (memory refl)
unread op text error.Empty f shows memory describes none = by_refusal op text error.Empty f describes
    (shows (λ same. cc))
unread op text error.NegativeWithDestination f shows memory describes none =
    by_refusal op text error.NegativeWithDestination f describes (shows (λ same. cc))
unread op text error.NegativeEmpty f shows memory describes none = by_refusal op text error.NegativeEmpty f describes
    (shows (λ same. cc))
unread op text error.NegativeObjectHash f shows memory describes none = by_refusal op text error.NegativeObjectHash f
    describes (shows (λ same. cc))
unread op text error.NegativePartialName f shows memory describes none = by_refusal op text error.NegativePartialName f
    describes (shows (λ same. cc))
unread op text error.NegativeGlobPattern f shows memory describes none = by_refusal op text error.NegativeGlobPattern f
    describes (shows (λ same. cc))
unread op text error.InvalidFetchDestination f shows memory describes none =
    by_refusal op text error.InvalidFetchDestination f describes (shows (λ same. cc))
unread op text error.PushToEmpty f shows memory describes none = by_refusal op text error.PushToEmpty f describes
    (shows (λ same. cc))
unread op text (error.PatternUnsupported pattern) f shows memory describes none =
    by_refusal op text (error.PatternUnsupported pattern) f describes (shows (λ same. cc))
unread op text error.PatternUnbalanced f shows memory describes none = by_refusal op text error.PatternUnbalanced f
    describes (shows (λ same. cc))
unread op text (error.ReferenceName fault) f shows memory describes none =
    by_refusal op text (error.ReferenceName fault) f describes (shows (λ same. cc))
