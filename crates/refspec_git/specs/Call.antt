-- The answer to a call of `git refspec`, by its arguments and what Git printed so far. This project's own rule, but for
-- what a fetch without arguments does (git-fetch(1)), and for when Git refuses to use any remote.
use Rattle.std.specs.Prelude.{◌≡◌, ◌≢◌, ◌⊎◌, ℕ, List, [], ◌∷◌, ◌++◌, None, Some, codes, map, ⊤}
use Rattle.std.specs.List.{All}
use Rattle.refspec_io.specs.declared.report.Report.{Report}
use Rattle.refspec_io.specs.declared.settings.Setting.{Setting}
use Rattle.refspec_io.specs.Input.{AreRecords}
use Rattle.refspec_request.specs.declared.arguments.Purpose.{Purpose}
use Rattle.refspec_request.specs.declared.arguments.Purpose.TheVariants as purpose
use Rattle.refspec_request.specs.declared.arguments.Request.{Request}
use Rattle.refspec_request.specs.declared.arguments.Subcommand.TheVariants as command
use Rattle.refspec_request.specs.declared.ask.GitCall.TheVariants as call
use Rattle.refspec_request.specs.declared.choice.Choice.{Choice}
use Rattle.refspec_request.specs.declared.choice.Repository.{Repository}
use Rattle.refspec_request.specs.declared.refusal.Refusal.{Refusal}
use Rattle.refspec_request.specs.declared.refusal.Refusal.TheVariants as refusal
use Rattle.refspec_request.specs.declared.usage.TheConstants.{OPTIONS, USAGE, VERSION}
use Rattle.refspec_request.specs.Arguments.{AskFor, RefusesCall}
use Rattle.refspec_request.specs.Choices.{Chooses, HasNoOldForm, IsOldForm, MayBeFetched, RefusesChoice}
use Rattle.refspec_request.specs.Refusals.{Writes, message_of, refusal_status}
use Rattle.refspec_request.specs.Remotes.{IsDefault}
use Rattle.refspec_git.specs.declared.answer.Answer.{Answer}
use Rattle.refspec_git.specs.declared.answer.Answer.TheVariants as answer
use Rattle.refspec_git.specs.declared.answer.Stop.{Stop}
use Rattle.refspec_git.specs.declared.answer.Stop.TheVariants as stop
use Rattle.refspec_git.specs.Answers.{IsReport, Requests}
use Rattle.refspec_git.specs.Asked.{AnswersPrefixes}
use Rattle.refspec_git.specs.Branches.{RefusesBranches}
use Rattle.refspec_git.specs.Checking.{IsChecked, StopsCheck}
use Rattle.refspec_git.specs.Chosen.{AreUsable, AreValuesOf, NamesNothing, ReportsUnusable}
use Rattle.refspec_git.specs.Fates.{AnswersFates, RefusesFates}
use Rattle.refspec_git.specs.Fetch.{AnswersFetch, RefusesFetch}
use Rattle.refspec_git.specs.Repository.{IsPrinted, IsRepository, LacksOutput}
use Rattle.refspec_git.specs.Stops.{Passes, StopsFirst}
use Rattle.refspec_git.specs.Tracking.{AnswersTracking, StopsTracking}
use Rattle.refspec_git.specs.Upstreams.{AnswersUpstream}
use Rattle.refspec_git.specs.Wanted.{RefusesGiven}
use Rattle.refspec_git.specs.World.{World}

-- the call ends with these results and messages, and with status 0
abbrev pub Shows : List ℕ → List ℕ → Answer → Type 0
Shows results messages (answer.Asks lines) = ⊥
Shows results messages (answer.Reports output) =
    (output.results.items ≡ results) × (output.messages.items ≡ messages) × (output.status ≡ 0)

-- it ends with the message and the exit status of a refusal alone
abbrev pub IsRefused : Refusal → Answer → Type 0
IsRefused e (answer.Asks lines) = ⊥
IsRefused e (answer.Reports output) = (output.results.items ≡ [])
    × Writes (message_of e) [] output.messages.items × (output.status ≡ refusal_status e)

-- a fetch without a remote and specs does nothing where there is no default remote
abbrev pub FetchesNothing : Repository → Request → Type 0
FetchesNothing r request =
    NamesNothing request × IsDefault r.settings.now r.branch.now r.old.now None

abbrev pub nothing_fetched : List ℕ
nothing_fetched =
    codes "git refspec: no remote is given, and there is no default one, so git fetch does nothing\n"

-- how a request about a chosen remote is answered
abbrev pub AnswersChoice : Repository → Request → Choice → Answer → Type 0
AnswersChoice r request choice a =
    ((request.command ≡ command.Prefixes) × MayBeFetched r choice.remote.now × AnswersPrefixes r request choice a)
    ⊎ ((request.command ≢ command.Prefixes) × AnswersFetch r request choice a)

-- why it is not
abbrev pub RefusesPrefixes : Repository → Choice → Refusal → Type 0
RefusesPrefixes r choice e =
    (¬ (MayBeFetched r choice.remote.now) × (e ≡ refusal.NoRemoteNoSpec choice.remote))
    ⊎ (MayBeFetched r choice.remote.now × RefusesGiven (map (λ text. text.now) choice.specs.items) (stop.Refused e))

abbrev pub RefusesAbout : Repository → Request → Choice → Refusal → Type 0
RefusesAbout r request choice e = ((request.command ≡ command.Prefixes) × RefusesPrefixes r choice e)
    ⊎ ((request.command ≢ command.Prefixes) × RefusesFetch request choice (stop.Refused e))

-- how a request about a remote is answered: at once if a fetch does nothing, and else for the chosen one, unless that
-- has a file of its own
abbrev pub AnswersFetching : Repository → Request → Answer → Type 0
AnswersFetching r request a = (FetchesNothing r request × Shows [] nothing_fetched a)
    ⊎ (¬ (FetchesNothing r request) × (choice : Choice) × Chooses r request choice
    × HasNoOldForm r choice.remote.now × AnswersChoice r request choice a)

-- why it is not
abbrev pub RefusesFetching : Repository → Request → Refusal → Type 0
RefusesFetching r request e = ¬ (FetchesNothing r request) × (RefusesChoice r request e
    ⊎ ((choice : Choice) × Chooses r request choice × (IsOldForm r choice.remote.now e
    ⊎ (HasNoOldForm r choice.remote.now × RefusesAbout r request choice e))))

-- how a command other than `check` is answered
abbrev pub AnswersCommand : Repository → Request → Answer → Type 0
AnswersCommand r request a = ((request.command ≡ command.Track) × AnswersTracking r request a)
    ⊎ ((request.command ≡ command.Upstream) × AnswersUpstream r request a)
    ⊎ ((request.command ≡ command.Why) × AnswersFates r request a)
    ⊎ ((request.command ≢ command.Track) × (request.command ≢ command.Upstream) × (request.command ≢ command.Why)
    × AnswersFetching r request a)

-- why it is not
abbrev pub RefusesCommand : Repository → Request → Refusal → Type 0
RefusesCommand r request e = ((request.command ≡ command.Track) × StopsTracking r request (stop.Refused e))
    ⊎ ((request.command ≡ command.Upstream) × RefusesBranches r request e)
    ⊎ ((request.command ≡ command.Why) × RefusesFates r request (stop.Refused e))
    ⊎ ((request.command ≢ command.Track) × (request.command ≢ command.Upstream) × (request.command ≢ command.Why)
    × RefusesFetching r request e)

-- Git refuses no value of any remote
abbrev pub HasUsable : Repository → Type 0
HasUsable r = (values : List Setting) × AreValuesOf None r.settings.now values × AreUsable values

-- it refuses one, and uses no remote: the call ends with status 1 and the report on these values
abbrev pub ReportsRefused : Repository → Request → Answer → Type 0
ReportsRefused r request a = (values : List Setting) × (report : Report) × AreValuesOf None r.settings.now values
    × ReportsUnusable values request.form report × IsReport report 1 a

-- how another command than `check` is answered: by such a report, or if Git stops at no setting
abbrev pub AnswersUsable : Repository → Request → Answer → Type 0
AnswersUsable r request a = ReportsRefused r request a
    ⊎ (HasUsable r × All (Passes request.command) r.settings.now × AnswersCommand r request a)

-- why it is not: Git stops at a setting
abbrev pub RefusesUsable : Repository → Request → Refusal → Type 0
RefusesUsable r request e = HasUsable r × (StopsFirst request.command r.settings.now e
    ⊎ (All (Passes request.command) r.settings.now × RefusesCommand r request e))

-- how a request is answered in a repository
abbrev pub AnswersIn : World → Repository → Request → Answer → Type 0
AnswersIn w r request (answer.Asks lines) =
    (request.command ≢ command.Check) × AnswersUsable r request (answer.Asks lines)
AnswersIn w r request (answer.Reports output) = ((request.command ≡ command.Check) × IsChecked w r request output)
    ⊎ ((request.command ≢ command.Check) × AnswersUsable r request (answer.Reports output))

-- why it is not
abbrev pub RefusesIn : Repository → Request → Refusal → Type 0
RefusesIn r request e = ((request.command ≡ command.Check) × StopsCheck r request (stop.Refused e))
    ⊎ ((request.command ≢ command.Check) × RefusesUsable r request e)

-- the same, unless a file fails, or memory runs out
abbrev pub StopsWith : (Refusal → Type 0) → Stop → Type 0
StopsWith refuses (stop.Refused e) = refuses e
StopsWith refuses (stop.Failed fault) = ⊤

-- the answer to a request in a repository, or the end with its refusal
abbrev pub EndsIn : World → Repository → Request → Answer → Type 0
EndsIn w r request a =
    AnswersIn w r request a ⊎ ((e : Refusal) × RefusesIn r request e × IsRefused e a)

-- the answer to a request: the three commands that tell of the repository if one hasn't run, and else by their outputs
abbrev pub AnswersRequest : World → Request → Answer → Type 0
AnswersRequest w request a =
    (LacksOutput w × Requests (call.Folder ∷ (call.Config ∷ (call.Head ∷ []))) a)
    ⊎ ((folder : List ℕ) × (config : List ℕ) × (head : List ℕ) × (r : Repository)
    × IsPrinted w folder config head × IsRepository w request folder config head r × EndsIn w r request a)

-- the answer to what arguments ask for
abbrev pub AnswersPurpose : World → Purpose → Answer → Type 0
AnswersPurpose w purpose.Usage a = Shows (USAGE.now ++ OPTIONS.now) [] a
AnswersPurpose w purpose.Version a = Shows VERSION.now [] a
AnswersPurpose w purpose.Manual a = Requests (call.Manual ∷ []) a
AnswersPurpose w (purpose.Request request) a = AnswersRequest w request a

-- the answer to arguments
abbrev pub AnswersArguments : World → List (List ℕ) → Answer → Type 0
AnswersArguments w arguments a = ((e : Refusal) × RefusesCall arguments e × IsRefused e a)
    ⊎ ((p : Purpose) × AskFor arguments p × AnswersPurpose w p a)

-- the answer to a call, whose arguments each end with a zero byte
abbrev pub AnswersCall : World → Answer → Type 0
AnswersCall w a = (text : List ℕ) × w.printed (codes "words") (Some text)
    × (arguments : List (List ℕ)) × AreRecords 0 arguments text × AnswersArguments w arguments a
