-- Modes, instructions and errors as contracts see them.
use Rattle.std.specs.Prelude.{◌≡◌}
use Rattle.bstr.specs.BStr.{bstr_bytes}
use Rattle.bstr.specs.Owned.{bstring_bytes}
use Rattle.gix_refspec_text.specs.declared.types.Mode.{Mode as DeclaredMode}
use Rattle.gix_refspec_text.specs.declared.types.Instruction.{Instruction}
use Rattle.gix_refspec_text.specs.declared.instruction.Push.{Push}
use Rattle.gix_refspec_text.specs.declared.instruction.Fetch.{Fetch}
use Rattle.gix_refspec_text.specs.declared.parsing.Operation.{Operation}
use Rattle.gix_refspec_text.specs.declared.parsing.Error.{Error}
use Rattle.gix_refspec_text.specs.Specs.Reading.{Mode, Normal, Forced, Negative}
use Rattle.gix_refspec_text.specs.Specs.Refusal.{Refusal, Empty, NegativeWithDestination, PushToEmpty}
use Rattle.gix_refspec_text.specs.Specs.Refusal.{PatternUnsupported, ReferenceName, PatternUnbalanced, NegativeEmpty}
use Rattle.gix_refspec_text.specs.Specs.Refusal.{NegativeObjectHash}
use Rattle.gix_refspec_text.specs.Specs.Meaning.{Meaning, push_all_matching, push_delete, push_matching, push_exclude}
use Rattle.gix_refspec_text.specs.Specs.Meaning.{fetch_only, fetch_exclude, fetch_and_update}
use Rattle.gix_refspec_text.specs.declared.types.Mode.TheVariants as declared_mode
use Rattle.gix_refspec_text.specs.declared.types.Instruction.TheVariants as instruction
use Rattle.gix_refspec_text.specs.declared.instruction.Push.TheVariants as push
use Rattle.gix_refspec_text.specs.declared.instruction.Fetch.TheVariants as fetch
use Rattle.gix_refspec_text.specs.declared.parsing.Operation.TheVariants as operation
use Rattle.gix_refspec_text.specs.declared.parsing.Error.TheVariants as error

-- the mode, from the declared type
abbrev pub mode_of : DeclaredMode → Mode
mode_of declared_mode.Normal = Normal
mode_of declared_mode.Force = Forced
mode_of declared_mode.Negative = Negative

-- the meaning of a push
abbrev pub meaning_of_push : Push → Meaning
meaning_of_push (push.AllMatchingBranches forced) = push_all_matching forced
meaning_of_push (push.Delete d) = push_delete (bstr_bytes d)
meaning_of_push (push.Matching s d forced) = push_matching (bstr_bytes s) (bstr_bytes d) forced
meaning_of_push (push.Exclude s) = push_exclude (bstr_bytes s)

-- the meaning of a fetch
abbrev pub meaning_of_fetch : Fetch → Meaning
meaning_of_fetch (fetch.Only s) = fetch_only (bstr_bytes s)
meaning_of_fetch (fetch.Exclude s) = fetch_exclude (bstr_bytes s)
meaning_of_fetch (fetch.AndUpdate s d forced) = fetch_and_update (bstr_bytes s) (bstr_bytes d) forced

-- the meaning of an instruction
abbrev pub meaning_of_instruction : Instruction → Meaning
meaning_of_instruction (instruction.Push p) = meaning_of_push p
meaning_of_instruction (instruction.Fetch f) = meaning_of_fetch f

-- the operation of a meaning
abbrev pub meant_for : Meaning → Operation
meant_for (push_all_matching forced) = operation.Push
meant_for (push_delete d) = operation.Push
meant_for (push_matching s d forced) = operation.Push
meant_for (push_exclude s) = operation.Push
meant_for (fetch_only s) = operation.Fetch
meant_for (fetch_exclude s) = operation.Fetch
meant_for (fetch_and_update s d forced) = operation.Fetch

-- the error is this refusal of the grammar; `Memory` and the variants that are never returned are not refusals
abbrev pub IsShownAs : Error → Refusal → Type 0
IsShownAs error.Empty f = f ≡ Empty
IsShownAs error.NegativeWithDestination f = f ≡ NegativeWithDestination
IsShownAs error.PushToEmpty f = f ≡ PushToEmpty
IsShownAs (error.PatternUnsupported pattern) f = f ≡ PatternUnsupported (bstring_bytes pattern)
IsShownAs (error.ReferenceName fault) f = f ≡ ReferenceName fault
IsShownAs error.PatternUnbalanced f = f ≡ PatternUnbalanced
IsShownAs error.NegativeEmpty f = f ≡ NegativeEmpty
IsShownAs error.NegativeObjectHash f = f ≡ NegativeObjectHash
IsShownAs _ f = ⊥

-- the error is a refusal that satisfies P
abbrev pub ShowsRefusal : (Refusal → Type 0) → Error → Type 0
ShowsRefusal P e = (f : Refusal) × IsShownAs e f × P f
