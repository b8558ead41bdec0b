-- Which texts of a call are given, and how many these are.
use Rattle.std.proofs.Common.{◌<◌, ◌^◌, List, [], ◌∷◌, ◌++◌, Vec, codes, length, refl, ap, ◌∙◌, arith}
use Rattle.gix_refspec_text.specs.declared.parsing.Operation.TheVariants.{Fetch, Push}
use Rattle.refspec_io.specs.declared.call.Call.{Call}
use Rattle.refspec_io.specs.declared.call.Terminator.TheVariants as ends
use Rattle.refspec_io.specs.Texts.{AddsGiven, IsGivenCount, argument_at, numbered, record_at}
use Rattle.refspec_io.proofs.facts.InputFacts.{one_record, records, records_once}
use Rattle.refspec_io.proofs.facts.SettingFacts.{lent}
use Rattle.refspec_io.proofs.facts.TextFacts.{not_added}

-- those of the file of specs, one for each record; a file of settings has none
pub given : AddsGiven ends.Newline Fetch (codes "-") (codes "a\r\nb") (argument_at Push 1 (codes "x") ∷ [])
    (argument_at Push 1 (codes "x") ∷ record_at (codes "-") Fetch 1 (codes "a\r") ∷ record_at (codes "-") Fetch 2
    (codes "b") ∷ [])
    × AddsGiven ends.Zero Fetch (codes "-") (codes "a\r\nb" ++ 0 ∷ []) []
    (record_at (codes "-") Fetch 1 (codes "a\r\nb") ∷ [])
    × AddsGiven ends.Settings Fetch (codes "-") (codes "a\n") (argument_at Push 1 (codes "x") ∷ [])
    (argument_at Push 1 (codes "x") ∷ [])
given = ((codes "a\r" ∷ codes "b" ∷ [], records.0, refl), (codes "a\r\nb" ∷ [], records.1, refl), refl)

-- no record is left out, none is of a file of settings, and a newline isn't what ends records that zero bytes end
pub not_given : ¬ (AddsGiven ends.Newline Fetch (codes "-") (codes "a\n") [] [])
    × ¬ (AddsGiven ends.Settings Fetch (codes "-") (codes "a\n") [] (record_at (codes "-") Fetch 1 (codes "a") ∷ []))
    × ¬ (AddsGiven ends.Zero Fetch (codes "-") (codes "a\r\nb" ++ 0 ∷ []) []
    (record_at (codes "-") Fetch 1 (codes "a\r") ∷ record_at (codes "-") Fetch 2 (codes "b" ++ 0 ∷ []) ∷ []))
not_given = (
  not_added.0,
  (λ same. omega (arith, ap length same)),
  λ adds. omega (
    arith,
    ap length (adds.2 ∙ ap (numbered (record_at (codes "-") Fetch) 1)
        (records_once 0 adds.0 (codes "a\r\nb" ∷ []) (codes "a\r\nb" ++ 0 ∷ []) adds.1 records.1)),
  ),
)

-- a vector of these elements
abbrev pub vec_with : {X A : Type 0} → Vec X A → (xs : List X) → length xs < 2 ^ 63 → Vec X A
vec_with v xs few = record v { items = xs; len = length xs; cap = length xs; ok = (refl, omega arith); small = few }

-- arguments count as given, and so do the records of a file of specs, but no settings
pub counted : (call : Call)
    → IsGivenCount (record call { ends = ends.Newline; specs = vec_with call.specs [] (omega arith) })
    (codes "a\r\nb") 2
    × IsGivenCount (record call {
      ends = ends.Newline;
      specs = vec_with call.specs (lent (codes "x") ∷ []) (omega arith);
    }) (codes "a\r\nb") 3
    × IsGivenCount (record call {
      ends = ends.Settings;
      specs = vec_with call.specs (lent (codes "x") ∷ []) (omega arith);
    }) (codes "a\r\nb") 1
counted call = (
  (_, (codes "a\r" ∷ codes "b" ∷ [], records.0, refl), refl),
  (_, (codes "a\r" ∷ codes "b" ∷ [], records.0, refl), refl),
  (_, refl, refl),
)

pub not_counted : (call : Call)
    → ¬ (IsGivenCount (record call { ends = ends.Newline; specs = vec_with call.specs [] (omega arith) })
    (codes "a\n") 0)
    × ¬ (IsGivenCount (record call { ends = ends.Settings; specs = vec_with call.specs [] (omega arith) })
    (codes "a\n") 1)
    × ¬ (IsGivenCount
    (record call { ends = ends.Settings; specs = vec_with call.specs (lent (codes "x") ∷ []) (omega arith) }) [] 0)
not_counted call = (
  (λ is. omega (
    arith,
    is.2,
    ap length (is.1.2 ∙ ap (numbered (record_at call.beside.now call.operation) 1)
        (records_once 10 is.1.0 (codes "a" ∷ []) (codes "a\n") is.1.1 one_record.0)),
  )),
  (λ is. omega (arith, is.2, ap length is.1)),
  λ is. omega (arith, is.2, ap length is.1),
)
