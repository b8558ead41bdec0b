-- The results and the exit status of a call, and its messages on refused texts and conflicts. The results of `check`
-- and `explain` are left open, and so is what `check` warns of.
use Rattle.std.specs.Prelude.{◌≡◌, ◌⊎◌, ℕ, Bool, true, false, List, [], Option, map, MatchBool, ⊤}
use Rattle.std.specs.Io.KnownBytes.{Appends}
use Rattle.bstr.specs.BStr.{bstr_bytes}
use Rattle.gix_refspec.specs.Specs.Reading.{Reading}
use Rattle.refspec_io.specs.declared.call.Call.{Call}
use Rattle.refspec_io.specs.declared.call.Command.{Command}
use Rattle.refspec_io.specs.declared.call.Command.TheVariants as command
use Rattle.refspec_io.specs.declared.call.Files.{Files}
use Rattle.refspec_io.specs.declared.call.Form.{Form}
use Rattle.refspec_io.specs.declared.call.Task.{Task}
use Rattle.refspec_io.specs.declared.checked.Checked.{Checked}
use Rattle.refspec_io.specs.declared.fault.Fault.{Fault}
use Rattle.refspec_io.specs.declared.fault.Fault.TheVariants as fault
use Rattle.refspec_io.specs.declared.report.Report.{Report}
use Rattle.refspec_io.specs.declared.settings.Setting.{Setting}
use Rattle.refspec_io.specs.Input.{ReadsToEnd}
use Rattle.refspec_io.specs.Messages.{AreRefusals, ReportsRefusals}
use Rattle.refspec_io.specs.Read.{AddsIfGood, AddsIfRead, AreGood, HasBad, DecidesRefused}
use Rattle.refspec_io.specs.Settings.{AreSettingsOf, HasLacking, HasNoSettings}
use Rattle.refspec_io.specs.Shown.{KeepsResults}
use Rattle.refspec_io.specs.Texts.{AreTexts, Given, IsGivenCount, said, spec_input}
use Rattle.refspec_fetch.specs.Fetch.{AddsFetch}
use Rattle.refspec_commands.specs.Canon.{AddsCanonical, ShowsCanonical}
use Rattle.refspec_commands.specs.declared.prefixes.report.Notation.{Notation}
use Rattle.refspec_commands.specs.declared.prefixes.report.Notation.TheVariants as notation
use Rattle.refspec_commands.specs.Locals.{AddsWhy}
use Rattle.refspec_commands.specs.Prefetches.{AddsPrefetches}
use Rattle.refspec_commands.specs.Prefixes.{AddsBeside}
use Rattle.refspec_commands.specs.Renames.{AddsRenamed}
use Rattle.refspec_commands.specs.Track.{AddsTracked}
use Rattle.refspec_commands.specs.Upstreams.{AddsUpstreams}
use Rattle.refspec_commands.specs.Warnings.{ShowsCheck}

-- how a call asks for prefixes to be written
abbrev pub notation_of : (patterns : Bool) → Notation
notation_of true = notation.Pattern
notation_of false = notation.Argument

-- the results grew by what a command reports on specs with these readings, and whether something is refused; before are
-- the earlier messages, and after all of them
abbrev pub AddsFound : Command → Task → Form → (before after : List ℕ) → Bool → List Reading → List ℕ → List ℕ → Type 0
AddsFound command.Plan task form before after refused g old new =
    AddsFetch task g refused (record { form = form; results = old; messages = before })
    (record { form = form; results = new; messages = after })
AddsFound command.Stale task form before after refused g old new =
    AddsFetch task g refused (record { form = form; results = old; messages = before })
    (record { form = form; results = new; messages = after })
AddsFound command.Track task form before after refused g old new =
    AddsTracked form (map (λ w. w.now) task.call.now.refs.items) refused g old new
AddsFound command.Prefixes task form before after refused g old new =
    AddsBeside (map bstr_bytes task.call.now.merges.items) task.call.now.tags
    (notation_of task.call.now.patterns) form g old new × (refused ≡ false)
AddsFound command.Upstream task form before after refused g old new =
    AddsUpstreams form (map bstr_bytes task.call.now.merges.items) refused g old new
AddsFound command.Prefetch task form before after refused g old new =
    (refused ≡ false) × AddsPrefetches form g old new
AddsFound command.Why task form before after refused g old new =
    AddsWhy task g refused (record { form = form; results = old; messages = before })
    (record { form = form; results = new; messages = after })
AddsFound _ task form before after refused g old new = ⊤

-- the report of a call on its texts and what it reads; if a text is refused, the messages are the refusals, and of
-- `check`
-- also warnings
abbrev pub Shows : Command → Task → List Given → Report → Bool → Type 0
Shows command.Canon task texts report refused =
    ShowsCanonical task.call.now.form texts report.results.items × DecidesRefused refused (map said texts)
    × AreRefusals task.call.now.form texts report.messages.items
Shows command.Check task texts report refused = ShowsCheck task.call.now texts report refused
Shows command.Explain task texts report refused =
    DecidesRefused refused (map said texts) × AreRefusals task.call.now.form texts report.messages.items
Shows command.Rename task texts report refused =
    AddsRenamed task.call.now.remote.now task.call.now.new_remote.now task.call.now.form texts refused []
    report.results.items
Shows found task texts report refused =
    AddsIfRead (AddsFound found task task.call.now.form [] report.messages.items refused)
    (AreRefusals task.call.now.form texts report.messages.items) task.call.now.form refused texts []
    report.results.items

-- some key of refspecs has no value: then only that is reported
pub record LacksValues (call : Call) (files : Files) (input : List ℕ) (report : Report) (refused : Bool) : Type 0 where
  pub settings : List Setting
  pub read : AreSettingsOf call.ends files.specs.now (spec_input call.command files.configured.now input) settings
  pub lacks : HasLacking settings
  pub status : refused ≡ true
  pub kept : KeepsResults call.form [] report.results.items

-- each key of refspecs has a value
abbrev pub HasValues : Call → Files → List ℕ → Type 0
HasValues call files input =
    (settings : List Setting) × AreSettingsOf call.ends files.specs.now
    (spec_input call.command files.configured.now input) settings × ¬ (HasLacking settings)

-- the call, and what it reads
pub record IsTask (call : Call) (files : Files) (input : List ℕ) (task : Task) : Type 0 where
  pub calls : task.call.now ≡ call
  pub reads : task.input.now ≡ input
  pub local : task.local.now ≡ files.local.now
  pub given : IsGivenCount call files.specs.now task.given

-- the report of a call on its files and the input, if all keys of refspecs have values
abbrev pub IsWholeOutput : Call → Files → List ℕ → Report → Bool → Type 0
IsWholeOutput call files input report refused =
    HasValues call files input
    × ((task : Task) × (texts : List Given) × IsTask call files input task × AreTexts call files input texts
    × Shows call.command task texts report refused)

-- the report of a call
abbrev pub IsOutput : Call → Files → List ℕ → Report → Bool → Type 0
IsOutput call files input report refused =
    LacksValues call files input report refused ⊎ IsWholeOutput call files input report refused

-- the exit status: 1 if something is refused, missing, conflicting, left out, not found, or warned of in a strict call,
-- else 0
abbrev pub status_of : Bool → ℕ
status_of true = 1
status_of false = 0

-- the input is all that the reader had left, if the call reads it, else empty
abbrev pub IsInput : Bool → Option (List ℕ) → Option (List ℕ) → List ℕ → Type 0
IsInput reads old new input = MatchBool reads (ReadsToEnd old new input) (input ≡ [])

-- if the fault is about the format of settings, what was read or a file of specs isn't in that format
abbrev pub RefusesInput : Call → Files → Option (List ℕ) → Option (List ℕ) → Fault → Type 0
RefusesInput call files old new (fault.Settings why) =
    (input : List ℕ) × IsInput call.reads_input old new input × HasNoSettings call.ends files.specs.now
    (spec_input call.command files.configured.now input)
RefusesInput call files old new _ = ⊤

-- the report of the call on what it read was written, and status is its exit status
pub record Answers (call : Call) (files : Files) (reader_old reader_new writer_old writer_new errors_old errors_new :
    Option (List ℕ)) (status : ℕ) : Type 0 where
  pub input : List ℕ
  pub report : Report
  pub refused : Bool
  pub read : IsInput call.reads_input reader_old reader_new input
  pub is : IsOutput call files input report refused
  pub written : Appends writer_old writer_new report.results.items
  pub reported : Appends errors_old errors_new report.messages.items
  pub ended : status ≡ status_of refused

-- the report is empty, and in this form
pub record IsEmpty (f : Form) (report : Report) : Type 0 where
  pub form : report.form ≡ f
  pub results : report.results.items ≡ []
  pub messages : report.messages.items ≡ []

-- what a command other than `check` reported on checked texts and what it reads
abbrev pub ReportsChecked : Command → Task → List Checked → Report → Report → Bool → Type 0
ReportsChecked command.Canon task all old new refused =
    AddsCanonical old.form all old.results.items new.results.items × MatchBool refused (HasBad all) (AreGood all)
    × ReportsRefusals old.form all old.messages.items new.messages.items
ReportsChecked command.Check task all old new refused = ⊤
ReportsChecked command.Rename task all old new refused = ⊤
ReportsChecked command.Explain task all old new refused =
    MatchBool refused (HasBad all) (AreGood all) × ReportsRefusals old.form all old.messages.items new.messages.items
ReportsChecked found task all old new refused =
    AddsIfGood (AddsFound found task old.form old.messages.items new.messages.items refused)
    (ReportsRefusals old.form all old.messages.items new.messages.items) old.form refused all old.results.items
    new.results.items
