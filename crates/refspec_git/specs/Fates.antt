-- What `git refspec why` asks about a ref of a remote, given what Git printed, and what it reports. By git-fetch(1) on
-- the specs of a fetch, and gitrevisions(7) on partial names; the rest is this project's own rule.
use Rattle.std.specs.Prelude.{◌≡◌, ◌≢◌, ◌⊎◌, ℕ, List, [], ◌∷◌, ◌++◌, Option, None, Some, cond, drop, length, map, take}
use Rattle.std.specs.Prelude.{codes, option_map, ⊤}
use Rattle.std.specs.Borrow.{Bor}
use Rattle.std.specs.List.{All, Any}
use Rattle.gix_refspec.specs.Matching.Match.{Ref}
use Rattle.gix_refspec.specs.Matching.RefNames.{IsRefName}
use Rattle.gix_refspec.specs.Specs.Reading.{Reading}
use Rattle.gix_refspec.specs.Views.Group.{ref_of}
use Rattle.gix_refspec.specs.Views.Spec.{reading_of}
use Rattle.gix_refspec_match.specs.Matching.Mappings.{name as name_source}
use Rattle.gix_refspec_match.specs.declared.types.Item.{Item}
use Rattle.gix_refspec_plan.specs.declared.Origin.{Origin}
use Rattle.gix_refspec_plan.specs.declared.Origin.TheVariants as origin
use Rattle.gix_refspec_plan.specs.declared.Update.{Update}
use Rattle.gix_refspec_plan.specs.Matching.Plan.{IsPlan, Wish}
use Rattle.gix_refspec_plan.specs.Views.Plan.{planned_of}
use Rattle.gix_refspec_text.specs.Matching.Side.{candidates, written_name_of}
use Rattle.gix_refspec_text.specs.Specs.Reading.{all_tags, fetched_alone}
use Rattle.gix_refspec_text.specs.Texts.Words.{BeginsWith}
use Rattle.refspec_io.specs.declared.call.Form.{Form}
use Rattle.refspec_io.specs.Read.{AreRead}
use Rattle.refspec_io.specs.Refs.{ListsNames}
use Rattle.refspec_io.specs.Texts.{said}
use Rattle.refspec_fetch.specs.Answer.{takes_all}
use Rattle.refspec_fetch.specs.Fetch.{ReportsBad}
use Rattle.refspec_fetch.specs.Report.{Report}
use Rattle.refspec_commands.specs.declared.fates.answer.Answer.{Answer as FatesAnswer}
use Rattle.refspec_commands.specs.declared.fates.question.Known.TheVariants as known
use Rattle.refspec_commands.specs.declared.fates.question.Question.{Question}
use Rattle.refspec_commands.specs.declared.fates.roles.LocalAnswer.{LocalAnswer}
use Rattle.refspec_commands.specs.Fates.{AddsAnswer, IsAnswer, IsFetched, IsUnfetched}
use Rattle.refspec_commands.specs.Locals.{AddsLocalAnswer, IsLocalAnswer, IsUnwritten, IsWritten}
use Rattle.refspec_request.specs.Calls.{requested}
use Rattle.refspec_request.specs.Choices.{HasNoOldForm, IsFetchedFrom, IsOldForm, RefusesRemote}
use Rattle.refspec_request.specs.declared.arguments.Request.{Request}
use Rattle.refspec_request.specs.declared.ask.GitCall.TheVariants as call
use Rattle.refspec_request.specs.declared.choice.Choice.{Choice}
use Rattle.refspec_request.specs.declared.choice.Repository.{Repository}
use Rattle.refspec_request.specs.declared.output.Output.{Output}
use Rattle.refspec_request.specs.declared.refusal.Refusal.{Refusal}
use Rattle.refspec_request.specs.declared.refusal.Refusal.TheVariants as refusal
use Rattle.refspec_git.specs.declared.answer.Answer.{Answer}
use Rattle.refspec_git.specs.declared.answer.Answer.TheVariants as answer
use Rattle.refspec_git.specs.declared.answer.Stop.{Stop}
use Rattle.refspec_git.specs.declared.answer.Stop.TheVariants as stop
use Rattle.refspec_git.specs.declared.fates.Asked.{Asked}
use Rattle.refspec_git.specs.declared.specs.Specs.{Specs}
use Rattle.refspec_git.specs.Fetch.{AreAmong, RefusesTexts, texts_in}
use Rattle.refspec_git.specs.Named.{HasFirst}
use Rattle.refspec_git.specs.Refs.{IsRef}
use Rattle.refspec_git.specs.Wanted.{AreSpecsOf, RefusesSpecs}

-- ---- the ref and the remote of a call

-- the arguments name a ref, and `--remote` or one more of them a remote, or nothing does
abbrev pub NameBoth : Option (Bor (List ℕ)) → List (Bor (List ℕ)) → Bor (List ℕ) → Option (Bor (List ℕ)) → Type 0
NameBoth option (a ∷ []) name remote = (name ≡ a) × (remote ≡ option)
NameBoth None (a ∷ (b ∷ [])) name remote = (name ≡ a) × (remote ≡ Some b)
NameBoth _ _ name remote = ⊥

-- a ref that can be one, and a remote
pub record IsAskedBy (n : Bor (List ℕ)) (from : Option (Bor (List ℕ))) (asked : Asked) : Type 0 where
  pub name : asked.name ≡ n
  pub remote : asked.remote ≡ from
  pub is_ref : IsRef n.now

abbrev pub RefusesName : Bor (List ℕ) → Refusal → Type 0
RefusesName name e = (e ≡ refusal.NoRefName name) × ¬ (IsRef name.now)

-- what the arguments ask about
abbrev pub IsAsked : Option (Bor (List ℕ)) → List (Bor (List ℕ)) → Asked → Type 0
IsAsked option arguments asked = (name : Bor (List ℕ)) × (remote : Option (Bor (List ℕ)))
    × NameBoth option arguments name remote × IsAskedBy name remote asked

-- why they ask about nothing: there are too few or too many, or the name isn't valid
abbrev pub RefusesAsked : Option (Bor (List ℕ)) → List (Bor (List ℕ)) → Refusal → Type 0
RefusesAsked option arguments e =
    ((e ≡ refusal.ArgumentsOfWhy)
    × ((name : Bor (List ℕ)) → (remote : Option (Bor (List ℕ))) → ¬ (NameBoth option arguments name remote)))
    ⊎ ((name : Bor (List ℕ)) × (remote : Option (Bor (List ℕ))) × NameBoth option arguments name remote
    × RefusesName name e)

-- ---- the ref among those of the remote

-- one of the refs has this name; none has
abbrev pub IsListed : List Item → List ℕ → Type 0
IsListed items n = Any (λ i. (ref_of i).name ≡ n) items

abbrev pub IsUnlisted : List Item → List ℕ → Type 0
IsUnlisted items n = All (λ i. (ref_of i).name ≢ n) items

-- the full name that a name means: the first of its candidates that a ref has; without any the one of a new ref
abbrev pub MeansRef : List Item → List ℕ → List ℕ → Type 0
MeansRef items name full =
    HasFirst (IsUnlisted items) (λ n. IsListed items n × (full ≡ n)) (candidates name)
    ⊎ (All (IsUnlisted items) (candidates name) × (full ≡ written_name_of name))

-- ---- the specs that count for it

-- the plan of a fetch with the given and the configured specs of these readings, and with what the current branch
-- merges
pub record PlansFor (s : Specs) (g : List Reading) (refs : List Ref) (updates : List Update) : Type 0 where
  pub wish : Wish
  pub missing : List Origin
  pub given : wish.given ≡ take (length s.given.items) g
  pub configured : wish.configured ≡ drop (length s.given.items) g
  pub merges : AreAmong (map (λ m. m.now) s.merges.items) wish.merges
  pub tags : wish.tags ≡ takes_all s.tags
  pub plan : IsPlan wish refs (map planned_of updates) missing

-- an update is no spec's: the current branch merges its ref, or it is that of `HEAD`, as nothing else is asked for
abbrev pub IsOfNoSpec : Origin → Type 0
IsOfNoSpec (origin.Merge k) = ⊤
IsOfNoSpec origin.Default = ⊤
IsOfNoSpec _ = ⊥

-- such an update fetches the ref of this name
abbrev pub IsAlone : List ℕ → Update → Type 0
IsAlone n u = ((planned_of u).source ≡ name_source n) × IsOfNoSpec u.origin

-- one of the updates does; none does, unless the name isn't valid
abbrev pub MayBeAlone : List ℕ → List Update → Type 0
MayBeAlone n updates = IsRefName n × Any (IsAlone n) updates

abbrev pub NeverAlone : List ℕ → List Update → Type 0
NeverAlone n updates = IsRefName n → All (λ u. ¬ (IsAlone n u)) updates

-- the spec of the ref alone, if one does
abbrev pub IsOwnSpec : List ℕ → List Update → List Reading → Type 0
IsOwnSpec n updates own =
    (MayBeAlone n updates × (own ≡ fetched_alone n ∷ [])) ⊎ (NeverAlone n updates × (own ≡ []))

-- the specs grew by that
abbrev pub AddsOwnSpec : List ℕ → List Update → List Reading → List Reading → Type 0
AddsOwnSpec n updates old new = (own : List Reading) × IsOwnSpec n updates own × (new ≡ old ++ own)

-- the specs that count for the ref of this name: those with these readings, its own one if it is fetched though none of
-- them takes it, and all tags if they are asked for
pub record AreCounted (s : Specs) (g : List Reading) (refs : List Ref) (n : List ℕ) (all : List Reading) : Type 0 where
  pub updates : List Update
  pub own : List Reading
  pub plan : PlansFor s g refs updates
  pub is_own : IsOwnSpec n updates own
  pub counted : all ≡ (g ++ own) ++ cond (takes_all s.tags) (all_tags ∷ []) []

-- ---- the report

-- the exit status: 0 if the ref is fetched, else 1
abbrev pub HasStatus : FatesAnswer → ℕ → Type 0
HasStatus a status = (IsFetched known.Listed a × (status ≡ 0)) ⊎ (IsUnfetched known.Listed a × (status ≡ 1))

-- what the specs do with the ref that a name means was reported
pub record ReportsRef (s : Specs) (g : List Reading) (items : List Item) (name : List ℕ) (status : ℕ)
    (old new : Report) : Type 0 where
  pub question : Question
  pub answer : FatesAnswer
  pub means : MeansRef items name question.name.now
  pub counted : AreCounted s g (map ref_of items) question.name.now (map reading_of question.specs.now)
  pub refs : question.refs.now ≡ items
  pub known : question.known ≡ known.Listed
  pub answered : IsAnswer question answer
  pub reported : AddsAnswer old.form question.name.now answer old.results new.results
  pub ended : HasStatus answer status

-- the exit status of a local ref: 0 if it is written, else 1
abbrev pub HasLocalStatus : List ℕ → LocalAnswer → ℕ → Type 0
HasLocalStatus n a status = (IsWritten n a × (status ≡ 0)) ⊎ (IsUnwritten n a × (status ≡ 1))

-- what the specs, with that of all tags if they are asked for, have to do with a local ref of this name was reported
pub record ReportsLocal (s : Specs) (g : List Reading) (items : List Item) (name : List ℕ) (status : ℕ)
    (old new : Report) : Type 0 where
  pub question : Question
  pub answer : LocalAnswer
  pub named : question.name.now ≡ name
  pub counted : map reading_of question.specs.now ≡ g ++ cond (takes_all s.tags) (all_tags ∷ []) []
  pub refs : question.refs.now ≡ items
  pub known : question.known ≡ known.Listed
  pub answered : IsLocalAnswer question answer
  pub reported : AddsLocalAnswer old.form name answer old.results new.results
  pub ended : HasLocalStatus name answer status

-- the name is that of a tracking ref, and none of the refs of the remote has it; or it isn't, or one has it
abbrev pub IsLocal : List Item → List ℕ → Type 0
IsLocal items name = BeginsWith (codes "refs/remotes/") name × IsUnlisted items name

abbrev pub IsRemote : List Item → List ℕ → Type 0
IsRemote items name = ¬ (BeginsWith (codes "refs/remotes/") name) ⊎ IsListed items name

-- what is reported of it then
abbrev pub ReportsAsked : Specs → List Reading → List Item → List ℕ → ℕ → Report → Report → Type 0
ReportsAsked s g items name status old new =
    (IsLocal items name × ReportsLocal s g items name status old new)
    ⊎ (IsRemote items name × ReportsRef s g items name status old new)

-- the same for the refs that `git ls-remote` lists, and the readings of the specs
pub record ReportsListed (s : Specs) (lines name : List ℕ) (status : ℕ) (old new : Report) : Type 0 where
  pub g : List Reading
  pub items : List Item
  pub read : AreRead (map said (texts_in s)) g
  pub listed : ListsNames 10 lines (map ref_of items) []
  pub reported : ReportsAsked s g items name status old new

-- that; or only the specs that are refused, or the bad lines, with status 1
abbrev pub ReportsFates : Specs → List ℕ → List ℕ → ℕ → Report → Report → Type 0
ReportsFates s lines name status old new = ReportsListed s lines name status old new
    ⊎ ((RefusesTexts (texts_in s) old new ⊎ ReportsBad 10 lines old new) × (status ≡ 1))

-- the report on a ref of a remote
pub record IsReported (r : Repository) (form : Form) (name : List ℕ) (choice : Choice) (output : Output) :
    Type 0 where
  pub specs : Specs
  pub lines : List ℕ
  pub report : Report
  pub are_specs : AreSpecsOf r choice specs
  pub reports : ReportsFates specs lines name output.status (record { form = form; results = []; messages = [] }) report
  pub results : output.results.items ≡ report.results
  pub messages : output.messages.items ≡ report.messages

-- the answer to it: the Git command that lists the refs of the remote, or the report
abbrev pub AnswersAbout : Repository → Form → List ℕ → Choice → Answer → Type 0
AnswersAbout r form name choice (answer.Asks lines) = lines.items ≡ requested (call.Lines choice.remote)
AnswersAbout r form name choice (answer.Reports output) = IsReported r form name choice output

-- why there is none: specs of the choice are refused, a file fails, or memory runs out
abbrev pub RefusesAbout : Choice → Stop → Type 0
RefusesAbout choice (stop.Refused e) = RefusesSpecs (map (λ text. text.now) choice.specs.items) e
RefusesAbout choice (stop.Failed fault) = ⊤

-- the answer to a call, by the fetch values of the remote alone
pub record AnswersFates (r : Repository) (request : Request) (a : Answer) : Type 0 where
  pub asked : Asked
  pub choice : Choice
  pub is_asked : IsAsked request.remote request.arguments.items asked
  pub chosen : IsFetchedFrom r (option_map (λ text. text.now) asked.remote) choice.remote.now
  pub new : HasNoOldForm r choice.remote.now
  pub none : choice.specs.items ≡ []
  pub answers : AnswersAbout r request.form asked.name.now choice a

-- why there is no answer: the arguments don't say what it is about, no remote is chosen, or it has a file of its own
abbrev pub RefusesFates : Repository → Request → Stop → Type 0
RefusesFates r request (stop.Refused e) =
    RefusesAsked request.remote request.arguments.items e
    ⊎ ((asked : Asked) × IsAsked request.remote request.arguments.items asked
    × (RefusesRemote r (option_map (λ text. text.now) asked.remote) e
    ⊎ ((remote : Bor (List ℕ)) × IsFetchedFrom r (option_map (λ text. text.now) asked.remote) remote.now
    × IsOldForm r remote.now e)))
RefusesFates r request (stop.Failed fault) = ⊤
