-- The operation that a text is read for, and why it isn't read.
use Rattle.std.specs.Prelude.{◌≡◌, ℕ, List}
use Rattle.gix_refspec_text.specs.declared.parsing.Operation.{Operation}
use Rattle.gix_refspec_text.specs.declared.parsing.Operation.TheVariants.{Push, Fetch}
use Rattle.gix_refspec.specs.Specs.Reading.{Reading}
use Rattle.gix_refspec.specs.Specs.Grammar.{Reads}
use Rattle.gix_refspec.specs.Specs.Refusal.{Refusal, IsRefused, MayNeedMemory}
use Rattle.gix_refspec_c.specs.declared.failure.Failure.{Failure}
use Rattle.gix_refspec_c.specs.declared.failure.Failure.TheVariants as failure
use Rattle.gix_refspec_c.specs.Outcome.{of_refusal}

-- the number of an operation
abbrev pub code_of : Operation → ℕ
code_of Fetch = 1
code_of Push = 2

-- the text is a refspec for the operation
abbrev pub IsRefspec : Operation → List ℕ → Type 0
IsRefspec op text = (r : Reading) × Reads op text r

-- why the text wasn't read: memory ran out where it may, or the failure reports the first reason against the text
abbrev pub IsUnread : Operation → List ℕ → Failure → Type 0
IsUnread op text failure.NoMemory = MayNeedMemory op text
IsUnread op text f = (e : Refusal) × IsRefused op text e × (f ≡ of_refusal e)
