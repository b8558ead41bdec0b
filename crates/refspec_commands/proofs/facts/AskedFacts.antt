-- The prefixes that a group asks for, and the report that a key lacks its value.
use Rattle.std.proofs.Common.{◌≡◌, ℕ, true, false, List, [], ◌∷◌, Some, ap, arith, codes, inl, inr}
use Rattle.std.proofs.Common.{length, refl, subst}
use Rattle.std.proofs.lemmas.Bool.{false≢true}
use Rattle.gix_refspec.specs.Specs.Grammar.{fetched}
use Rattle.gix_refspec.specs.Specs.Reading.{Normal, Reading}
use Rattle.gix_refspec_text.proofs.facts.FitFacts.{every}
use Rattle.refspec_io.specs.declared.call.Call.{Call}
use Rattle.refspec_io.specs.declared.call.Command.TheVariants as command
use Rattle.refspec_io.specs.declared.call.Files.{Files}
use Rattle.refspec_io.specs.declared.call.Form.TheVariants as form
use Rattle.refspec_io.specs.declared.call.Terminator.TheVariants as ends
use Rattle.refspec_io.specs.declared.report.Report.{Report}
use Rattle.refspec_io.specs.Settings.{HasLacking}
use Rattle.refspec_io.proofs.facts.LackingFacts.{input_alone, input_whole, lacking, not_lacking, read}
use Rattle.refspec_io.proofs.facts.SettingFacts.{alone, whole}
use Rattle.refspec_commands.specs.Output.{LacksValues}
use Rattle.refspec_commands.specs.Prefixes.{IsWhole}

abbrev all_refs : Reading
all_refs = fetched Normal (codes "refs/*") (Some (codes "refs/x/*"))

abbrev no_readings : List Reading
no_readings = []

-- a call of `canon` whose input is settings, and files with these settings
abbrev settings_call : Call → Call
settings_call call = record call { command = command.Canon; form = form.Lines; ends = ends.Settings }

abbrev settings_files : Files → List ℕ → Files
settings_files files settings = record files { specs = record files.specs { now = settings } }

-- `refs/` is requested beside the prefixes of the other specs exactly if some spec takes that
pub asked : IsWhole (every ∷ []) (every ∷ []) [] × IsWhole (all_refs ∷ every ∷ []) (every ∷ []) (codes "refs/" ∷ [])
    × IsWhole (all_refs ∷ []) [] (codes "refs/" ∷ [])
asked = (
  inr (refl, refl),
  inl ((λ same. omega (arith, ap length same)), refl),
  inl ((λ same. omega (arith, ap length same)), refl),
)

-- it is neither left out nor asked for without need
pub not_asked : ¬ (IsWhole (all_refs ∷ []) [] []) × ¬ (IsWhole no_readings [] (codes "refs/" ∷ []))
not_asked = (left, needless)
  where
    left : ¬ (IsWhole (all_refs ∷ []) [] [])
    left (inl (some, same)) = omega (arith, ap length same)
    left (inr (none, same)) = omega (arith, ap length none)

    needless : ¬ (IsWhole no_readings [] (codes "refs/" ∷ []))
    needless (inl (some, same)) = some refl
    needless (inr (none, same)) = omega (arith, ap length same)

-- a key without a value is all that is reported, and the call is refused
pub lacks : (call : Call) (files : Files) (report : Report) → report.results.items ≡ []
    → LacksValues (settings_call call) (settings_files files input_whole) input_alone report true
    × LacksValues (settings_call call) (settings_files files input_alone) [] report true
lacks call files report none = (
  record {
    settings = whole ∷ alone ∷ [];
    read = (
      whole ∷ [],
      alone ∷ [],
      read.1,
      read.0,
      refl,
    );
    lacks = lacking.1;
    status = refl;
    kept = none;
  },
  record {
    settings = alone ∷ [];
    read = (
      alone ∷ [],
      [],
      read.0,
      read.2,
      refl,
    );
    lacks = lacking.0;
    status = refl;
    kept = none;
  },
)

-- other calls aren't refused for that, nor is one without such a key, and nothing else is reported
pub not_lacks : (call : Call) (files : Files) (input : List ℕ) (report other : Report)
    → other.results.items ≡ codes "x"
    → ¬ (LacksValues (settings_call call) (settings_files files input_alone) [] report false)
    × ¬ (LacksValues (settings_call call) (settings_files files input_alone) [] other true)
    × ¬ (LacksValues (record (settings_call call) { ends = ends.Newline }) files input report true)
not_lacks call files input report other some = (
  (λ is. false≢true is.status),
  (λ is. omega (arith, ap length is.kept, ap length some)),
  λ is. not_lacking.1 (subst HasLacking is.read is.lacks),
)
