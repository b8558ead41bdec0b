-- What `git refspec track` looks up, by git-config(1), and what it reports. The messages are left open.
use Rattle.std.specs.Prelude.{◌≡◌, ◌≢◌, ◌⊎◌, ℕ, List, [], ◌∷◌, ◌++◌, Option, None, Some, codes, map, unwrap_or, ⊤}
use Rattle.std.specs.BTreeMap.{BTreeMap}
use Rattle.std.specs.Borrow.{Bor}
use Rattle.std.specs.Global.{Vec}
use Rattle.std.specs.List.{All, AllZip}
use Rattle.gix_refspec.specs.Specs.Grammar.{Reads}
use Rattle.gix_refspec.specs.Specs.Reading.{Reading}
use Rattle.gix_refspec.specs.Specs.Refusal.{IsRefused}
use Rattle.gix_refspec.specs.Views.Instruction.{ShowsRefusal}
use Rattle.gix_refspec.specs.Views.Group.{ref_of}
use Rattle.gix_refspec.specs.Views.Spec.{reading_of}
use Rattle.gix_refspec_match.specs.declared.types.Item.{Item}
use Rattle.gix_refspec_text.specs.declared.parsing.Error.{Error}
use Rattle.gix_refspec_text.specs.declared.parsing.Operation.TheVariants as operation
use Rattle.refspec_commands.specs.Answer.{AddsAnswer, IsAnswer, IsStatusOfRefs}
use Rattle.refspec_commands.specs.declared.tracking.answer.Looked.{Looked}
use Rattle.refspec_commands.specs.declared.tracking.answer.Tracked.{Tracked}
use Rattle.refspec_commands.specs.declared.tracking.question.Order.TheVariants as order
use Rattle.refspec_commands.specs.declared.tracking.question.Remote.{Remote}
use Rattle.refspec_io.specs.declared.call.Form.{Form}
use Rattle.refspec_io.specs.declared.settings.Setting.{Setting}
use Rattle.refspec_request.specs.Choices.{HasNoOldForm, IsOldForm}
use Rattle.refspec_request.specs.Remotes.{AreFetchValues, IsConfigured}
use Rattle.refspec_request.specs.Settings.{value_in}
use Rattle.refspec_request.specs.declared.arguments.Request.{Request}
use Rattle.refspec_request.specs.declared.choice.Repository.{Repository}
use Rattle.refspec_request.specs.declared.output.Output.{Output}
use Rattle.refspec_request.specs.declared.refusal.Refusal.{Refusal}
use Rattle.refspec_request.specs.declared.refusal.Refusal.TheVariants as refusal
use Rattle.refspec_git.specs.declared.answer.Answer.{Answer}
use Rattle.refspec_git.specs.declared.answer.Answer.TheVariants as answer
use Rattle.refspec_git.specs.declared.answer.Stop.{Stop}
use Rattle.refspec_git.specs.declared.answer.Stop.TheVariants as stop
use Rattle.refspec_git.specs.declared.named.NamedRef.{NamedRef}
use Rattle.refspec_git.specs.Configured.{settings_of_remote}
use Rattle.refspec_git.specs.Named.{AreNames, HasFirst, IsNamed, RefusesNamed, RefusesNaming, asked_lines}

-- the text of a value, which is empty if it has none
abbrev pub text_in : Setting → List ℕ
text_in s = unwrap_or (value_in s) []

-- it is no spec
abbrev pub IsUnread : Setting → Type 0
IsUnread s = (e : Error) × ShowsRefusal (IsRefused operation.Fetch (text_in s)) e

-- the specs of values, in order; those that are refused have none
abbrev pub AreSpecsIn : List Setting → List Reading → Type 0
AreSpecsIn [] g = g ≡ []
AreSpecsIn (s ∷ values) g =
    ((r : Reading) × (rest : List Reading) × Reads operation.Fetch (text_in s) r × AreSpecsIn values rest
    × (g ≡ r ∷ rest))
    ⊎ (IsUnread s × AreSpecsIn values g)

-- the specs grew by that of a value, if it has one
abbrev pub AddsSpec : Setting → List Reading → List Reading → Type 0
AddsSpec s old new =
    ((r : Reading) × Reads operation.Fetch (text_in s) r × (new ≡ old ++ r ∷ [])) ⊎ (IsUnread s × (new ≡ old))

-- a remote with this name, and the specs of these values
pub record IsRemoteWith (name : Bor (List ℕ)) (values : List Setting) (remote : Remote) : Type 0 where
  pub named : remote.name ≡ Some name
  pub specs : AreSpecsIn values (map reading_of remote.specs.items)

-- the remotes of entries with values, in order
abbrev pub AreRemotesIn : List (Bor (List ℕ) × Vec Setting) → List Remote → Type 0
AreRemotesIn [] remotes = remotes ≡ []
AreRemotesIn (entry ∷ entries) remotes =
    ((remote : Remote) × (rest : List Remote) × (entry.1.items ≢ []) × IsRemoteWith entry.0 entry.1.items remote
    × AreRemotesIn entries rest × (remotes ≡ remote ∷ rest))
    ⊎ ((entry.1.items ≡ []) × AreRemotesIn entries remotes)

-- the remotes grew by one with these values, if there are any
abbrev pub AddsRemote : Bor (List ℕ) → List Setting → List Remote → List Remote → Type 0
AddsRemote name values old new =
    ((remote : Remote) × (values ≢ []) × IsRemoteWith name values remote × (new ≡ old ++ remote ∷ []))
    ⊎ ((values ≡ []) × (new ≡ old))

-- the remotes that have fetch values, in the order of their names
abbrev pub AreWithValues : List Setting → List Remote → Type 0
AreWithValues settings remotes = (values : BTreeMap (Bor (List ℕ)) (Vec Setting)) × AreFetchValues settings values
    × AreRemotesIn values.entries remotes

-- the values of a remote
abbrev pub values_of : List Setting → List ℕ → List Setting
values_of settings name = settings_of_remote name (codes "fetch") settings

-- the remote with this name alone, which has fetch values
pub record IsRemoteNamed (r : Repository) (name : Bor (List ℕ)) (remotes : List Remote) : Type 0 where
  pub remote : Remote
  pub one : remotes ≡ remote ∷ []
  pub new : HasNoOldForm r name.now
  pub configured : IsConfigured r.settings.now name.now
  pub some : values_of r.settings.now name.now ≢ []
  pub is : IsRemoteWith name (values_of r.settings.now name.now) remote

-- the remotes whose values count: the one that `--remote` names, or all that have some
abbrev pub AreRemotes : Repository → Option (Bor (List ℕ)) → List Remote → Type 0
AreRemotes r (Some name) remotes = IsRemoteNamed r name remotes
AreRemotes r None remotes = AreWithValues r.settings.now remotes × (remotes ≢ [])

-- why a remote doesn't count that `--remote` names, unless memory runs out: it has a file of its own, isn't configured,
-- or has no values
abbrev pub RefusesOne : Repository → Bor (List ℕ) → Refusal → Type 0
RefusesOne r name refusal.Memory = ⊤
RefusesOne r name (refusal.OldForm text folder) = IsOldForm r name.now (refusal.OldForm text folder)
RefusesOne r name (refusal.NoRemoteNoSpec text) =
    (text ≡ name) × HasNoOldForm r name.now × ¬ (IsConfigured r.settings.now name.now)
RefusesOne r name (refusal.NoValuesOf text) = (text ≡ name) × HasNoOldForm r name.now
    × IsConfigured r.settings.now name.now × (values_of r.settings.now name.now ≡ [])
RefusesOne r name _ = ⊥

-- the refusal of the first remote that has a file of its own, and no location in the configuration
abbrev pub IsOld : Repository → Refusal → Type 0
IsOld r e = HasFirst (λ o. HasNoOldForm r o.name.items) (λ o. IsOldForm r o.name.items e) r.old.now

-- there is none
abbrev pub HasNoOld : Repository → Type 0
HasNoOld r = All (λ o. HasNoOldForm r o.name.items) r.old.now

-- why there are no remotes with values, unless memory runs out
abbrev pub RefusesAll : Repository → Refusal → Type 0
RefusesAll r refusal.Memory = ⊤
RefusesAll r (refusal.OldForm text folder) =
    AreWithValues r.settings.now [] × IsOld r (refusal.OldForm text folder)
RefusesAll r refusal.NoValuesAtAll = AreWithValues r.settings.now [] × HasNoOld r
RefusesAll r _ = ⊥

abbrev pub RefusesRemotes : Repository → Option (Bor (List ℕ)) → Refusal → Type 0
RefusesRemotes r (Some name) e = RefusesOne r name e
RefusesRemotes r None e = RefusesAll r e

-- the answer for refs of these names by the specs of remotes: their rows, by ref, and the exit status, 1 if some ref
-- isn't simply tracked
pub record IsReported (form : Form) (remotes : List Remote) (names : List (List ℕ)) (output : Output) : Type 0 where
  pub items : List Item
  pub tracked : List Tracked
  pub looked : List Looked
  pub refs : map (λ i. (ref_of i).name) items ≡ names
  pub answer : IsAnswer items remotes tracked looked
  pub rows : AddsAnswer order.Refs tracked form [] output.results.items
  pub status : IsStatusOfRefs looked output.status

-- the report of a call, by what Git printed of refs
pub record IsTracked (r : Repository) (request : Request) (named : List NamedRef) (refs : List ℕ) (output : Output) :
    Type 0 where
  pub remotes : List Remote
  pub names : List (List ℕ)
  pub counted : AreRemotes r request.remote remotes
  pub all : AreNames refs remotes named names
  pub reported : IsReported request.form remotes names output

-- the answer: what Git is still to be asked; or the report, if there is nothing to ask
abbrev pub AnswersBy : Repository → Request → List NamedRef → Option (List ℕ) → Answer → Type 0
AnswersBy r request named refs (answer.Asks lines) =
    (lines.items ≡ asked_lines named refs) × (lines.items ≢ [])
AnswersBy r request named refs (answer.Reports output) =
    (asked_lines named refs ≡ []) × IsTracked r request named (unwrap_or refs []) output

abbrev pub AnswersTracking : Repository → Request → Answer → Type 0
AnswersTracking r request a = (request.arguments.items ≢ []) × (named : List NamedRef) × (refs : Option (List ℕ))
    × AllZip IsNamed request.arguments.items named × AnswersBy r request named refs a

-- why there is none, unless memory runs out: a remote doesn't count, or an expression means no ref
abbrev pub RefusesAnswer : Repository → Option (Bor (List ℕ)) → List NamedRef → Refusal → Type 0
RefusesAnswer r remote named refusal.Memory = ⊤
RefusesAnswer r remote named e = RefusesRemotes r remote e ⊎ RefusesNaming named e

-- why a call has no answer, unless a file fails, or memory runs out: no ref is given, or an argument can't name one; or
-- as there is none for what they name
abbrev pub StopsTracking : Repository → Request → Stop → Type 0
StopsTracking r request (stop.Failed fault) = ⊤
StopsTracking r request (stop.Refused refusal.NoRef) = request.arguments.items ≡ []
StopsTracking r request (stop.Refused e) =
    RefusesNamed request.arguments.items (stop.Refused e)
    ⊎ ((named : List NamedRef) × AllZip IsNamed request.arguments.items named
    × RefusesAnswer r request.remote named e)
