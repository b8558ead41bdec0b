-- The report on the texts of a call is its output.
use Rattle.std.proofs.Common.{◌≡◌, ◌≢◌, ◌⊎◌, ℕ, Bool, true, false, MatchBool, ◌||◌, ◌&&◌, List, [], ◌∷◌, Option, arith}
use Rattle.std.specs.Borrow.{Bor}
use Rattle.std.proofs.Common.{inl, inr, length, ltb, map, refl, sym, ap, subst, ◌∙◌}
use Rattle.std.specs.List.{AllZip}
use Rattle.bstr.specs.BStr.{bstr_bytes}
use Rattle.gix_refspec.specs.Specs.Reading.{Reading}
use Rattle.refspec_json.specs.declared.specs.SpecKind.{SpecKind}
use Rattle.refspec_io.specs.declared.call.Call.{Call}
use Rattle.refspec_io.specs.declared.call.Command.{Command}
use Rattle.refspec_io.specs.declared.call.Command.TheVariants as command
use Rattle.refspec_io.specs.declared.call.Files.{Files}
use Rattle.refspec_io.specs.declared.call.Form.{Form}
use Rattle.refspec_io.specs.declared.call.Task.{Task}
use Rattle.refspec_io.specs.declared.checked.Checked.{Checked}
use Rattle.refspec_io.specs.declared.checked.Checked.TheVariants as checked
use Rattle.refspec_io.specs.declared.report.Report.{Report}
use Rattle.refspec_io.specs.declared.settings.Setting.{Setting}
use Rattle.refspec_io.specs.declared.texts.Text.{Text}
use Rattle.refspec_io.specs.Messages.{AreRefusals, ReportsRefusals}
use Rattle.refspec_io.specs.Read.{AddsIfGood, AddsIfRead, AreGood, HasBad, IsChecked}
use Rattle.refspec_io.specs.Settings.{AreSettingsOf, HasLacking}
use Rattle.refspec_io.specs.Shown.{KeepsReport, KeepsResults}
use Rattle.refspec_io.specs.Texts.{AreTexts, Given, given_of, spec_input}
use Rattle.refspec_io.proofs.CheckedLemmas.{AddsIfRead-of, DecidesRefused-of}
use Rattle.refspec_io.proofs.MessageLemmas.{AreRefusals-of}
use Rattle.refspec_fetch.specs.Fetch.{AddsFetch}
use Rattle.refspec_fetch.specs.Report.{Report as FetchReport, report_of}
use Rattle.refspec_fetch.proofs.ReportLemmas.{AddsFetch-form}
use Rattle.refspec_commands.specs.declared.checking.Answer.{Answer}
use Rattle.refspec_commands.specs.declared.checking.Question.{Question}
use Rattle.refspec_commands.specs.declared.warnings.Warning.{Warning}
use Rattle.refspec_commands.specs.Canon.{AddsCanonical}
use Rattle.refspec_commands.specs.Fates.{AddsFates}
use Rattle.refspec_commands.specs.Locals.{AddsAsked, AddsRoles, AddsWhy}
use Rattle.refspec_commands.specs.Output.{AddsFound, HasValues, IsEmpty, IsOutput, IsTask, ReportsChecked, Shows}
use Rattle.refspec_commands.specs.Output.{notation_of}
use Rattle.refspec_commands.specs.Warned.{AddsSaid, nothing_asked}
use Rattle.refspec_commands.specs.Warnings.{AddsCheck, IsCheck, IsStatus, IsStrictStatus, ShowsCheck, WarnsIf}
use Rattle.refspec_commands.proofs.KeyLemmas.{WarnsIf-nothing}
use Rattle.refspec_commands.specs.Prefetches.{AddsPrefetches}
use Rattle.refspec_commands.specs.Prefixes.{AddsBeside}
use Rattle.refspec_commands.specs.Renames.{AddsRenamed}
use Rattle.refspec_commands.specs.Track.{AddsTracked}
use Rattle.refspec_commands.specs.Upstreams.{AddsUpstreams}
use Rattle.refspec_commands.specs.WarnedViews.{said_of, seen_of}
use Rattle.refspec_commands.proofs.CanonLemmas.{ShowsCanonical-of}
use Rattle.refspec_commands.proofs.SeenLemmas.{IsSeen-of}

-- the results of a command, or else the refusals
found_or_refused : (Adds : Form → List ℕ → List Reading → List ℕ → List ℕ → Type 0) (f : Form) (texts : List Text)
    (all : List Checked) (old new : Report) (refused : Bool) → AllZip IsChecked texts all → IsEmpty f old
    → AddsIfGood (Adds old.form old.messages.items)
    (ReportsRefusals old.form all old.messages.items new.messages.items) old.form refused all old.results.items
    new.results.items
    → AddsIfRead (Adds f []) (AreRefusals f (map given_of texts) new.messages.items) f refused (map given_of texts) []
    new.results.items
found_or_refused Adds f texts all old new refused read empty reported =
    let given = map given_of texts in
    let messages = new.messages.items in
    let results = new.results.items in
    let said = AddsIfRead-of (Adds old.form old.messages.items) _ _ old.form refused texts all old.results.items results
    read
    (AreRefusals-of old.form texts all old.messages.items messages read empty.messages) reported in
    let in_form =
    subst (λ (g : Form). AddsIfRead (Adds g old.messages.items) (AreRefusals g given messages) g refused given
    old.results.items results) empty.form said in
    let at_start = subst (λ (x : List ℕ). AddsIfRead (Adds f x) (AreRefusals f given messages) f refused given
    old.results.items results) empty.messages in_form in
    subst (λ (x : List ℕ). AddsIfRead (Adds f []) (AreRefusals f given messages) f refused given x results)
    empty.results
    at_start

-- the refusals are the first messages
refusals_alone : (f : Form) (texts : List Text) (all : List Checked) (old new : Report) → AllZip IsChecked texts all
    → IsEmpty f old → ReportsRefusals old.form all old.messages.items new.messages.items
    → AreRefusals f (map given_of texts) new.messages.items
refusals_alone f texts all old new read empty reported =
    AreRefusals-of f texts all old.messages.items new.messages.items read empty.messages
    (subst (λ (g : Form). ReportsRefusals g all old.messages.items new.messages.items) empty.form reported)

-- what a command other than `check` reports on its texts
pub Shows-checked : (k : Command) (task : Task) (texts : List Text) (all : List Checked) (old new : Report)
    (refused : Bool) → (k ≡ command.Check → ⊥) → (k ≡ command.Rename → ⊥) → AllZip IsChecked texts all
    → IsEmpty task.call.now.form old
    → ReportsChecked k task all old new refused → Shows k task (map given_of texts) new refused
Shows-checked command.Canon task texts all old new refused other no_rename read empty (shown, decides, reported) =
    let f = task.call.now.form in
    let results = new.results.items in
    let in_form = subst (λ (g : Form). AddsCanonical g all old.results.items results) empty.form shown in (
      ShowsCanonical-of f texts all results read
          (subst (λ (x : List ℕ). AddsCanonical f all x results) empty.results in_form),
      DecidesRefused-of refused texts all read decides,
      refusals_alone f texts all old new read empty reported,
    )
Shows-checked command.Check task texts all old new refused other no_rename read empty reported = absurd (other refl)
Shows-checked command.Explain task texts all old new refused other no_rename read empty (decides, reported) = (
  DecidesRefused-of refused texts all read decides,
  refusals_alone task.call.now.form texts all old new read empty reported,
)
Shows-checked command.Plan task texts all old new refused other no_rename read empty reported =
    found_or_refused (λ f told. AddsFound command.Plan task f told new.messages.items refused) task.call.now.form texts
    all
    old new refused read empty reported
Shows-checked command.Stale task texts all old new refused other no_rename read empty reported =
    found_or_refused (λ f told. AddsFound command.Stale task f told new.messages.items refused) task.call.now.form texts
    all
    old new refused read empty reported
Shows-checked command.Track task texts all old new refused other no_rename read empty reported =
    found_or_refused (λ f told. AddsFound command.Track task f told new.messages.items refused) task.call.now.form texts
    all
    old new refused read empty reported
Shows-checked command.Prefixes task texts all old new refused other no_rename read empty reported =
    found_or_refused (λ f told. AddsFound command.Prefixes task f told new.messages.items refused) task.call.now.form
    texts
    all old new refused read empty reported
Shows-checked command.Upstream task texts all old new refused other no_rename read empty reported =
    found_or_refused (λ f told. AddsFound command.Upstream task f told new.messages.items refused) task.call.now.form
    texts
    all old new refused read empty reported
Shows-checked command.Prefetch task texts all old new refused other no_rename read empty reported =
    found_or_refused (λ f told. AddsFound command.Prefetch task f told new.messages.items refused) task.call.now.form
    texts
    all old new refused read empty reported
Shows-checked command.Rename task texts all old new refused other no_rename read empty reported =
    absurd (no_rename refl)
Shows-checked command.Why task texts all old new refused other no_rename read empty reported =
    found_or_refused (λ f told. AddsFound command.Why task f told new.messages.items refused) task.call.now.form texts
    all
    old new refused read empty reported

-- what `check` reports
pub Shows-check : (k : Command) (task : Task) (texts : List Given) (report : Report) (failed : Bool) → k ≡ command.Check
    → ShowsCheck task.call.now texts report failed → Shows k task texts report failed
Shows-check k task texts report failed is shows =
    subst (λ (x : Command). Shows x task texts report failed) (sym is) shows

-- ---- `check`

-- whether a text is refused, and whether there is a warning
decide_bad : (all : List Checked) → (b : Bool) × MatchBool b (HasBad all) (AreGood all)
decide_bad [] = (false, tt)
decide_bad (checked.Good text spec ∷ all) = decide_bad all
decide_bad (checked.Bad text error ∷ all) = (true, tt)

decide_any : (ws : List Warning) → (b : Bool) × MatchBool b (ws ≢ []) (ws ≡ [])
decide_any [] = (false, refl)
decide_any (w ∷ ws) = (true, λ none. omega (arith, ap length none))

not_both : (all : List Checked) → HasBad all → AreGood all → ⊥
not_both [] bad good = bad
not_both (checked.Good text spec ∷ all) bad good = not_both all bad good
not_both (checked.Bad text error ∷ all) bad good = good

any_said : (b : Bool) (ws : List Warning) → MatchBool b (ws ≢ []) (ws ≡ [])
    → MatchBool b (map said_of ws ≢ []) (map said_of ws ≡ [])
any_said true [] some = absurd (some refl)
any_said true (w ∷ ws) some = λ none. omega (arith, ap length none)
any_said false ws none = ap (map said_of) none

-- the exit status of an answer, for a call that is strict or not
abbrev pub EndsCheck : (strict : Bool) → Answer → ℕ → Type 0
EndsCheck true a status = IsStrictStatus a status
EndsCheck false a status = IsStatus a status

fails_of : (strict : Bool) (a : Answer) (status : ℕ) (refused warned : Bool) → EndsCheck strict a status
    → MatchBool refused (HasBad a.checked.items) (AreGood a.checked.items)
    → MatchBool warned (a.warnings.items ≢ []) (a.warnings.items ≡ []) → ltb 0 status ≡ (refused || (strict && warned))
fails_of true a status true warned (inl (one, why)) bad any = ap (ltb 0) one
fails_of true a status true warned (inr (none, good, nil)) bad any = absurd (not_both a.checked.items bad good)
fails_of true a status false true (inl (one, why)) good some = ap (ltb 0) one
fails_of true a status false true (inr (none, are, nil)) good some = absurd (some nil)
fails_of true a status false false (inl (one, inl bad)) good nil = absurd (not_both a.checked.items bad good)
fails_of true a status false false (inl (one, inr some)) good nil = absurd (some nil)
fails_of true a status false false (inr (none, are, also)) good nil = ap (ltb 0) none
fails_of false a status true warned (inl (one, also)) bad any = ap (ltb 0) one
fails_of false a status true warned (inr (none, good)) bad any = absurd (not_both a.checked.items bad good)
fails_of false a status false warned (inl (one, bad)) good any = absurd (not_both a.checked.items bad good)
fails_of false a status false warned (inr (none, are)) good any = ap (ltb 0) none

-- the report on an answer of `check`, for a call that knows no remote
pub ShowsCheck-of : (call : Call) (question : Question) (answer : Answer) (kind : Option SpecKind) (old new : Report)
    (status : ℕ) → IsEmpty call.form old → question.warns ≡ call.warns → question.form ≡ old.form
    → question.beside.entries ≡ [] → IsCheck question answer → AddsCheck kind answer old new
    → EndsCheck call.is_strict answer status → ShowsCheck call (map given_of question.texts.now) new (ltb 0 status)
ShowsCheck-of call question answer kind old new status empty same_warns same_form none is adds ends =
    let texts = question.texts.now in
    let all = answer.checked.items in
    let seen = map seen_of all in
    let said = map said_of answer.warnings.items in
    let refused = decide_bad all in
    let warned = decide_any answer.warnings.items in
    let nothing = WarnsIf-nothing question.warns question.form question.beside seen said none is.warns in
    let in_form = subst (λ (g : Form). WarnsIf question.warns g (λ key. nothing_asked) seen said)
    (same_form ∙ empty.form)
    nothing in
    record {
      told = adds.told;
      refused = refused.0;
      seen = seen;
      warnings = said;
      warned = warned.0;
      are = refusals_alone call.form texts all old adds.told is.checked empty adds.refused;
      decides = DecidesRefused-of refused.0 texts all is.checked refused.1;
      sees = IsSeen-of texts all is.checked;
      warns = subst (λ (b : Bool). WarnsIf b call.form (λ key. nothing_asked) seen said) same_warns in_form;
      any = any_said warned.0 answer.warnings.items warned.1;
      adds = subst (λ (g : Form). AddsSaid g said adds.told new) empty.form adds.warned;
      status = fails_of call.is_strict answer status refused.0 warned.0 ends refused.1 warned.1;
    }

-- the report of a call on its texts
pub IsOutput-of : (call : Call) (files : Files) (input : List ℕ) (task : Task) (lent texts : List Text)
    (report : Report)
    (refused : Bool) → HasValues call files input → AreTexts call files input (map given_of texts)
    → IsTask call files input task → lent ≡ texts → Shows call.command task (map given_of lent) report refused
    → IsOutput call files input report refused
IsOutput-of call files input task lent texts report refused has are is same shows =
    inr (
      has,
      (
        task,
        map given_of texts,
        is,
        are,
        subst (λ (ts : List Text). Shows call.command task (map given_of ts) report refused) same shows,
      ),
    )

-- some key of refspecs has no value
pub IsOutput-lacking : (call : Call) (files : Files) (input : List ℕ) (settings : List Setting) (p q : Report)
    → AreSettingsOf call.ends files.specs.now (spec_input call.command files.configured.now input) settings
    → HasLacking settings → p.form ≡ call.form → p.results.items ≡ [] → KeepsReport p q
    → IsOutput call files input q true
IsOutput-lacking call files input settings p q read lacks form empty kept = inl (record {
  settings = settings;
  read = read;
  lacks = lacks;
  status = refl;
  kept = subst (λ (x : List ℕ). KeepsResults call.form x q.results.items) empty
      (subst (λ (x : Form). KeepsResults x p.results.items q.results.items) form kept.kept);
})

-- the report of a command other than `canon` and `explain`
pub ReportsChecked-found : (k : Command) (task : Task) (all : List Checked) (old new : Report) (refused : Bool)
    → (k ≡ command.Canon → ⊥) → (k ≡ command.Explain → ⊥)
    → AddsIfGood (AddsFound k task old.form old.messages.items new.messages.items refused)
    (ReportsRefusals old.form all old.messages.items new.messages.items) old.form refused all old.results.items
    new.results.items
    → ReportsChecked k task all old new refused
ReportsChecked-found command.Canon task all old new refused no_canon no_explain reported = absurd (no_canon refl)
ReportsChecked-found command.Check task all old new refused no_canon no_explain reported = tt
ReportsChecked-found command.Explain task all old new refused no_canon no_explain reported = absurd (no_explain refl)
ReportsChecked-found command.Plan task all old new refused no_canon no_explain reported = reported
ReportsChecked-found command.Stale task all old new refused no_canon no_explain reported = reported
ReportsChecked-found command.Track task all old new refused no_canon no_explain reported = reported
ReportsChecked-found command.Prefixes task all old new refused no_canon no_explain reported = reported
ReportsChecked-found command.Upstream task all old new refused no_canon no_explain reported = reported
ReportsChecked-found command.Prefetch task all old new refused no_canon no_explain reported = reported
ReportsChecked-found command.Rename task all old new refused no_canon no_explain reported = tt
ReportsChecked-found command.Why task all old new refused no_canon no_explain reported = reported

-- the results of a command other than `plan`, `stale`, `track`, `upstream`, `prefetch` and `why`
pub AddsFound-prefixes : (k : Command) (task : Task) (f : Form) (before messages : List ℕ) (g : List Reading)
    (old new : List ℕ) → (k ≡ command.Plan → ⊥) → (k ≡ command.Stale → ⊥) → (k ≡ command.Track → ⊥)
    → (k ≡ command.Upstream → ⊥) → (k ≡ command.Prefetch → ⊥) → (k ≡ command.Why → ⊥)
    → AddsBeside (map bstr_bytes task.call.now.merges.items) task.call.now.tags (notation_of task.call.now.patterns) f g
    old new → AddsFound k task f before messages false g old new
AddsFound-prefixes command.Canon task f before messages g old new no_plan no_stale no_track no_upstream no_prefetch
    no_why reported = tt
AddsFound-prefixes command.Check task f before messages g old new no_plan no_stale no_track no_upstream no_prefetch
    no_why reported = tt
AddsFound-prefixes command.Explain task f before messages g old new no_plan no_stale no_track no_upstream no_prefetch
    no_why reported = tt
AddsFound-prefixes command.Plan task f before messages g old new no_plan no_stale no_track no_upstream no_prefetch
    no_why reported = absurd (no_plan refl)
AddsFound-prefixes command.Stale task f before messages g old new no_plan no_stale no_track no_upstream no_prefetch
    no_why reported = absurd (no_stale refl)
AddsFound-prefixes command.Track task f before messages g old new no_plan no_stale no_track no_upstream no_prefetch
    no_why reported = absurd (no_track refl)
AddsFound-prefixes command.Prefixes task f before messages g old new no_plan no_stale no_track no_upstream no_prefetch
    no_why reported = (reported, refl)
AddsFound-prefixes command.Upstream task f before messages g old new no_plan no_stale no_track no_upstream no_prefetch
    no_why reported = absurd (no_upstream refl)
AddsFound-prefixes command.Prefetch task f before messages g old new no_plan no_stale no_track no_upstream no_prefetch
    no_why reported = absurd (no_prefetch refl)
AddsFound-prefixes command.Rename task f before messages g old new no_plan no_stale no_track no_upstream no_prefetch
    no_why reported = tt
AddsFound-prefixes command.Why task f before messages g old new no_plan no_stale no_track no_upstream no_prefetch
    no_why reported = absurd (no_why refl)

-- the results of `upstream`
pub AddsFound-upstream : (k : Command) (task : Task) (f : Form) (before messages : List ℕ) (refused : Bool)
    (g : List Reading) (old new : List ℕ) → k ≡ command.Upstream
    → AddsUpstreams f (map bstr_bytes task.call.now.merges.items) refused g old new
    → AddsFound k task f before messages refused g old new
AddsFound-upstream k task f before messages refused g old new is reported =
    subst (λ (x : Command). AddsFound x task f before messages refused g old new) (sym is) reported

-- the results of `prefetch`
pub AddsFound-prefetch : (k : Command) (task : Task) (f : Form) (before messages : List ℕ) (refused : Bool)
    (g : List Reading) (old new : List ℕ) → k ≡ command.Prefetch → (refused ≡ false) × AddsPrefetches f g old new
    → AddsFound k task f before messages refused g old new
AddsFound-prefetch k task f before messages refused g old new is reported =
    subst (λ (x : Command). AddsFound x task f before messages refused g old new) (sym is) reported

-- the results of `why`; it keeps the form
AddsFates-form : (task : Task) (g : List Reading) (refused : Bool) (old new : FetchReport)
    → AddsFates task g refused old
    new → AddsFates task g refused old (record { form = old.form; results = new.results; messages = new.messages })
AddsFates-form task g refused old new (inl (is, bad)) = inl (
  is,
  record {
    refs = bad.refs;
    bad = bad.bad;
    listed = bad.listed;
    some = bad.some;
    malformed = bad.malformed;
    form = refl;
  },
)
AddsFates-form task g refused old new (inr explained) = inr explained

AddsRoles-form : (task : Task) (g : List Reading) (refused : Bool) (old new : FetchReport)
    → AddsRoles task g refused old
    new → AddsRoles task g refused old (record { form = old.form; results = new.results; messages = new.messages })
AddsRoles-form task g refused old new (inl (is, bad)) = inl (
  is,
  record {
    refs = bad.refs;
    bad = bad.bad;
    listed = bad.listed;
    some = bad.some;
    malformed = bad.malformed;
    form = refl;
  },
)
AddsRoles-form task g refused old new (inr explained) = inr explained

AddsAsked-form : (names : List (Bor (List ℕ))) (task : Task) (g : List Reading) (refused : Bool) (old new : FetchReport)
    → AddsAsked names task g refused old new
    → AddsAsked names task g refused old (record { form = old.form; results = new.results; messages = new.messages })
AddsAsked-form [] task g refused old new reported = AddsRoles-form task g refused old new reported
AddsAsked-form (n ∷ names) task g refused old new reported = AddsFates-form task g refused old new reported

pub AddsFound-why : (k : Command) (task : Task) (old new : Report) (refused : Bool) (g : List Reading)
    → k ≡ command.Why → AddsWhy task g refused (report_of old) (report_of new)
    → AddsFound k task old.form old.messages.items new.messages.items refused g old.results.items new.results.items
AddsFound-why k task old new refused g is reported =
    subst (λ (x : Command). AddsFound x task old.form old.messages.items new.messages.items refused g old.results.items
    new.results.items) (sym is)
    (AddsAsked-form task.call.now.refs.items task g refused (report_of old) (report_of new) reported)

-- what `rename` reports
pub Shows-rename : (k : Command) (task : Task) (texts : List Given) (old new : Report) (left : Bool)
    → k ≡ command.Rename → IsEmpty task.call.now.form old
    → AddsRenamed task.call.now.remote.now task.call.now.new_remote.now old.form texts left old.results.items
    new.results.items → Shows k task texts new left
Shows-rename k task texts old new left is empty reported =
    let in_form = subst (λ (f : Form). AddsRenamed task.call.now.remote.now task.call.now.new_remote.now f texts left
    old.results.items new.results.items) empty.form reported in
    subst (λ (x : Command). Shows x task texts new left) (sym is)
    (subst (λ (l : List ℕ). AddsRenamed task.call.now.remote.now task.call.now.new_remote.now task.call.now.form texts
    left l new.results.items) empty.results in_form)

-- the results of `track`
pub AddsFound-track : (k : Command) (task : Task) (f : Form) (before messages : List ℕ) (refused : Bool)
    (g : List Reading) (old new : List ℕ) → k ≡ command.Track
    → AddsTracked f (map (λ w. w.now) task.call.now.refs.items) refused g old new
    → AddsFound k task f before messages refused g old new
AddsFound-track k task f before messages refused g old new is reported =
    subst (λ (x : Command). AddsFound x task f before messages refused g old new) (sym is) reported

-- the results of `plan` and `stale`
pub AddsFound-fetch : (k : Command) (task : Task) (old new : Report) (refused : Bool) (g : List Reading)
    → (k ≡ command.Plan) ⊎ (k ≡ command.Stale) → AddsFetch task g refused (report_of old) (report_of new)
    → AddsFound k task old.form old.messages.items new.messages.items refused g old.results.items new.results.items
AddsFound-fetch k task old new refused g is reported =
    let same = AddsFetch-form task g refused (report_of old) (report_of new) reported in
    let fetch = subst
    (λ (f : Form). AddsFetch task g refused (report_of old)
    (record { form = f; results = new.results.items; messages = new.messages.items })) same reported in
    elim is [
      | inl plan ↦ subst (λ (x : Command). AddsFound x task old.form old.messages.items new.messages.items refused g
          old.results.items new.results.items) (sym plan) fetch
      | inr stale ↦
          subst (λ (x : Command). AddsFound x task old.form old.messages.items new.messages.items refused g
          old.results.items new.results.items) (sym stale) fetch
    ]
