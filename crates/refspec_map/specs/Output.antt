-- What a canon command writes: a line for each line of its input, with the canonical text of the spec
-- that it reads as, or the name of the reason why it is refused.
use Rattle.std.specs.Prelude.{◌≡◌, ℕ, Bool, true, false, ◌||◌, List, [], ◌∷◌, ◌++◌, Some, codes}
use Rattle.std.specs.List.{AllZip, flat_map}
use Rattle.gix_refspec_text.specs.declared.parsing.Operation.{Operation}
use Rattle.gix_refspec.specs.Specs.Reading.{Reading}
use Rattle.gix_refspec.specs.Specs.Refusal.{IsRefused, Refusal}
use Rattle.gix_refspec.specs.Specs.Grammar.{Reads}
use Rattle.gix_refspec.specs.Specs.Meaning.{printed}
use Rattle.gix_refspec.specs.Views.Spec.{reading_of}
use Rattle.refspec_map.specs.declared.output.Answer.{Answer as Made}
use Rattle.refspec_map.specs.declared.output.Answer.TheVariants as made
use Rattle.refspec_map.specs.Fault.{name_of}
use Rattle.refspec_map.specs.Input.{newline, AreLines}

-- a canonical text, or a refusal
pub data Answer : Type 0 where
  accepted : List ℕ → Answer
  refused : Refusal → Answer

-- the answer to a line, read for the operation
abbrev pub IsAnswer : Operation → List ℕ → Answer → Type 0
IsAnswer op line (accepted text) = (r : Reading) × Reads op line r × (printed r ≡ Some text)
IsAnswer op line (refused e) = IsRefused op line e

-- `ok` and the canonical text, or `err` and the name of the reason
abbrev pub answer_line : Answer → List ℕ
answer_line (accepted text) = codes "ok " ++ (text ++ (newline ∷ []))
answer_line (refused e) = codes "err " ++ (name_of e ++ (newline ∷ []))

abbrev pub is_refused : Answer → Bool
is_refused (accepted text) = false
is_refused (refused e) = true

abbrev pub any_refused : List Answer → Bool
any_refused [] = false
any_refused (a ∷ answers) = is_refused a || any_refused answers

-- the output for an input, each line read for the operation, and whether some line is refused
pub record IsCanon (op : Operation) (input output : List ℕ) (refusal : Bool) : Type 0 where
  pub lines : List (List ℕ)
  pub answers : List Answer
  pub split : AreLines lines input
  pub told : AllZip (IsAnswer op) lines answers
  pub written : output ≡ flat_map answer_line answers
  pub tells : refusal ≡ any_refused answers

-- the program's answer to a line, read for the operation: a spec with its reading, or the name of the first reason
abbrev pub IsAnsweredBy : Operation → List ℕ → Made → Type 0
IsAnsweredBy op line (made.Accepted s) = Reads op line (reading_of s)
IsAnsweredBy op line (made.Refused name) = (e : Refusal) × IsRefused op line e × (name.now ≡ name_of e)

-- the line of the program's answer was appended to the old output
abbrev pub AppendsLine : Made → List ℕ → List ℕ → Type 0
AppendsLine (made.Accepted s) old new = (text : List ℕ) × (printed (reading_of s) ≡ Some text)
    × (new ≡ old ++ answer_line (accepted text))
AppendsLine (made.Refused name) old new = (e : Refusal) → name.now ≡ name_of e → new ≡ old ++ answer_line (refused e)

-- whether the program's answer is a refusal
abbrev pub is_refusal : Made → Bool
is_refusal (made.Accepted s) = false
is_refusal (made.Refused name) = true
