-- A law of refusals: a text is refused for the first reason that applies to its parts. It follows from the definitions
-- in Grammar and Refusal, and adds no rule.
use Rattle.std.specs.Prelude.{ℕ, List, Option}
use Rattle.gix_refspec_text.specs.declared.parsing.Operation.{Operation}
use Rattle.gix_refspec_text.specs.Specs.Reading.{Mode}
use Rattle.gix_refspec_text.specs.Specs.Grammar.{AreParts}
use Rattle.gix_refspec_text.specs.Specs.Refusal.{Refusal, IsFirstReason, IsRefused}

-- a text is refused for the first reason that applies to its parts, since then it has no reading
abbrev pub ReasonRefuses : Operation → List ℕ → Type 0
ReasonRefuses op text = (mode : Mode) (source : List ℕ) (destination : Option (List ℕ)) (e : Refusal)
    → AreParts mode source destination text → IsFirstReason op mode source destination e → IsRefused op text e
