-- Refspecs made of sides, and why none is.
use Rattle.std.proofs.Common.{◌≡◌, ◌≢◌, List, ℕ, Option, refl, sym, ◌∙◌}
use Rattle.gix_refspec_text.specs.declared.name.Error.{Error as NameError}
use Rattle.gix_refspec_text.specs.declared.name.Error.TheVariants as of_name
use Rattle.gix_refspec_text.specs.declared.parsing.Error.{Error}
use Rattle.gix_refspec_text.specs.declared.parsing.Operation.{Operation}
use Rattle.gix_refspec.specs.Specs.Reading.{Mode}
use Rattle.gix_refspec.specs.Specs.Refusal.{Refusal, Empty, NegativeWithDestination, PushToEmpty, PatternUnsupported}
use Rattle.gix_refspec.specs.Specs.Refusal.{ReferenceName, PatternUnbalanced, NegativeEmpty, NegativeObjectHash}
use Rattle.gix_refspec.specs.Views.Instruction.{IsShownAs}
use Rattle.gix_refspec_remote.specs.declared.parts.PartsError.{PartsError}
use Rattle.gix_refspec_remote.specs.declared.parts.PartsError.TheVariants as why
use Rattle.gix_refspec_remote.specs.Parts.{IsNoSpec}
use Rattle.gix_refspec_c.specs.declared.failure.Failure.{Failure}
use Rattle.gix_refspec_c.specs.declared.failure.Failure.TheVariants as failure
use Rattle.gix_refspec_c.specs.Making.{IsUnmade, other_parts, refused, out_of_memory}
use Rattle.gix_refspec_c.specs.Outcome.{of_fault, of_refusal}

-- no refusal is told as a small buffer
fault_isnt_small : (fault : NameError) → of_fault fault ≢ failure.TooSmall
fault_isnt_small of_name.Empty same = cc
fault_isnt_small of_name.EmptyComponent same = cc
fault_isnt_small of_name.StartsWithDot same = cc
fault_isnt_small of_name.LockSuffix same = cc
fault_isnt_small of_name.EndsWithDot same = cc
fault_isnt_small of_name.RepeatedDot same = cc
fault_isnt_small of_name.ReflogPortion same = cc
fault_isnt_small of_name.Asterisk same = cc
fault_isnt_small (of_name.InvalidByte b) same = cc

refusal_isnt_small : (e : Refusal) → of_refusal e ≢ failure.TooSmall
refusal_isnt_small Empty same = cc
refusal_isnt_small NegativeWithDestination same = cc
refusal_isnt_small PushToEmpty same = cc
refusal_isnt_small (PatternUnsupported pattern) same = cc
refusal_isnt_small (ReferenceName fault) same = fault_isnt_small fault same
refusal_isnt_small PatternUnbalanced same = cc
refusal_isnt_small NegativeEmpty same = cc
refusal_isnt_small NegativeObjectHash same = cc

-- the failure that reports why no refspec is made
pub unmade_by : (op : Operation) (mode : Mode) (s : List ℕ) (d : Option (List ℕ)) (e : PartsError) (f : Failure)
    → (e ≢ why.Memory → IsNoSpec op mode s d e) → (e ≡ why.OtherParts → f ≡ failure.OtherParts)
    → ((x : Error) (r : Refusal) → e ≡ why.Text x → IsShownAs x r → f ≡ of_refusal r)
    → (e ≡ why.Memory → f ≡ failure.NoMemory) → (f ≢ failure.TooSmall) × IsUnmade op mode s d f
unmade_by op mode s d why.OtherParts f none other text memory =
    let is = other refl in (λ small. cc (sym is ∙ small), other_parts is (none (λ same. cc)))
unmade_by op mode s d (why.Text x) f none other text memory =
    let (apart, (r, shows, is)) = none (λ same. cc) in let same = text x r refl shows in (
      λ small. refusal_isnt_small r (sym same ∙ small),
      refused r same apart is,
    )
unmade_by op mode s d why.Memory f none other text memory =
    let is = memory refl in (λ small. cc (sym is ∙ small), out_of_memory is)
