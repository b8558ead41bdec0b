-- The texts of a call, and their locations.
use Rattle.std.proofs.Common.{◌≡◌, ℕ, List, [], ◌∷◌, ◌++◌, codes, get_or, length, refl, ap, ◌∙◌, arith}
use Rattle.gix_refspec_text.specs.declared.parsing.Operation.{Operation}
use Rattle.gix_refspec_text.specs.declared.parsing.Operation.TheVariants.{Push, Fetch}
use Rattle.gix_refspec_text.proofs.facts.FitFacts.{push_is_none}
use Rattle.refspec_io.specs.declared.call.Command.TheVariants as command
use Rattle.refspec_io.specs.declared.call.Terminator.TheVariants as ends
use Rattle.refspec_io.specs.declared.texts.Location.TheVariants as location
use Rattle.refspec_io.specs.declared.texts.Text.{Text}
use Rattle.refspec_io.specs.Input.{AreRecords}
use Rattle.refspec_io.specs.Texts.{AddsRecords, AddsTexts, Given, Spot, at_record, at_setting, at_argument, given_of}
use Rattle.refspec_io.specs.Texts.{numbered, record_at, said, spec_input, spot_of, argument_at}
use Rattle.refspec_io.proofs.facts.InputFacts.{one_record, records, records_once}

-- a text for an operation
abbrev pub text_for : Operation → List ℕ → Text
text_for op bytes = record {
  location = location.Argument 1;
  operation = op;
  bytes =
      record { ref_ptr = (0, 0); now = bytes };
}

-- a text has its location, its operation and its bytes
pub what_is_given : (given_of (text_for Push (codes "a")) ≡ argument_at Push 1 (codes "a"))
    × (said (given_of (text_for Push (codes "a"))) ≡ (Push, codes "a"))
    × (said (record_at (codes "-") Fetch 7 (codes "b")) ≡ (Fetch, codes "b"))
what_is_given = (refl, refl, refl)

-- arguments and records by their numbers, settings by their files and keys
pub spots : (spot_of (location.Argument 3) ≡ at_argument 3)
    × (spot_of (location.Record (record { ref_ptr = (0, 0); now = codes "-" }) 2) ≡ at_record (codes "-") 2)
    × (spot_of (location.Setting (record { ref_ptr = (0, 0); now = codes "file:c" })
    (record { ref_ptr = (0, 0); now = codes "k" })) ≡ at_setting (codes "file:c") (codes "k"))
spots = (refl, refl, refl)

-- the numbers are consecutive, from the first on
pub numbers :
    (numbered (argument_at Fetch) 1 (codes "a" ∷ codes "b" ∷ []) ≡ argument_at Fetch 1 (codes "a") ∷ argument_at Fetch 2
    (codes "b") ∷ [])
    × (numbered (argument_at Fetch) 1 [] ≡ [])
numbers = (refl, refl)

-- the end byte decides how many texts an input has; they are appended, and counted from 1
pub added : AddsTexts ends.Newline Fetch (codes "-") (codes "a\r\nb") (argument_at Push 1 (codes "x") ∷ [])
    (argument_at Push 1 (codes "x") ∷ record_at (codes "-") Fetch 1 (codes "a\r") ∷ record_at (codes "-") Fetch 2
    (codes "b") ∷ [])
    × AddsTexts ends.Zero Fetch (codes "-") (codes "a\r\nb" ++ 0 ∷ []) []
    (record_at (codes "-") Fetch 1 (codes "a\r\nb") ∷ [])
added = ((codes "a\r" ∷ codes "b" ∷ [], records.0, refl), (codes "a\r\nb" ∷ [], records.1, refl))

-- no record is left out, and none has another operation or another number
pub not_added : ¬ (AddsRecords 10 Fetch (codes "-") (codes "a\n") [] [])
    × ¬ (AddsRecords 10 Fetch (codes "-") (codes "a\n") [] (record_at (codes "-") Push 1 (codes "a") ∷ []))
    × ¬ (AddsRecords 10 Fetch (codes "-") (codes "a\n") [] (record_at (codes "-") Fetch 0 (codes "a") ∷ []))
not_added = (
  (λ adds. omega (arith, ap length (adds.2 ∙ ap (numbered (record_at (codes "-") Fetch) 1) (once adds.0 adds.1)))),
  (λ adds. push_is_none
      (ap (λ (l : List Given). (get_or l 0 other).operation)
      (adds.2 ∙ ap (numbered (record_at (codes "-") Fetch) 1) (once adds.0 adds.1)))),
  λ adds. omega (
    arith,
    ap (λ (l : List Given). number (get_or l 0 other).spot)
        (adds.2 ∙ ap (numbered (record_at (codes "-") Fetch) 1) (once adds.0 adds.1)),
  ),
)
  where
    other : Given
    other = argument_at Fetch 0 []

    number : Spot → ℕ
    number (at_argument n) = n
    number (at_record input n) = n
    number (at_setting file key) = 0

    once : (found : List (List ℕ)) → AreRecords 10 found (codes "a\n") → found ≡ codes "a" ∷ []
    once found split = records_once 10 found (codes "a" ∷ []) (codes "a\n") split one_record.0

-- the input of a plan isn't read as specs, but the configured ones are; that of other commands is, except for `stale`
-- and `why`
pub inputs : (spec_input command.Plan (codes "c\n") (codes "a\n") ≡ codes "c\n")
    × (spec_input command.Stale (codes "c\n") (codes "a\n") ≡ [])
    × (spec_input command.Why (codes "c\n") (codes "a\n") ≡ [])
    × (spec_input command.Check [] (codes "a\n") ≡ codes "a\n")
    × (spec_input command.Canon [] (codes "a\n") ≡ codes "a\n")
    × (spec_input command.Track [] (codes "a\n") ≡ codes "a\n")
inputs = (refl, refl, refl, refl, refl, refl)
