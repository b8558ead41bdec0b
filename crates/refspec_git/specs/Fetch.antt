-- What `git refspec plan` and `git refspec stale` ask about a fetch, and report of the answer, given what Git printed.
-- Which specs and refs the notes are about is left open.
use Rattle.std.specs.Prelude.{◌≡◌, ◌⊎◌, ℕ, Bool, true, false, List, [], ◌∷◌, ◌++◌, codes, drop, length, map, take}
use Rattle.std.specs.Prelude.{cond, ⊤}
use Rattle.std.specs.Borrow.{Bor}
use Rattle.gix_refspec.specs.Matching.Lists.{IsMadeFrom}
use Rattle.gix_refspec.specs.Matching.Match.{Ref}
use Rattle.gix_refspec.specs.Specs.Reading.{Reading}
use Rattle.gix_refspec_text.specs.declared.parsing.Operation.TheVariants as operation
use Rattle.refspec_io.specs.declared.call.Limit.{Limit}
use Rattle.refspec_io.specs.declared.call.Limit.TheVariants as limit
use Rattle.refspec_io.specs.Input.{AreRecords}
use Rattle.refspec_io.specs.Json.{AddsObjects}
use Rattle.refspec_io.specs.Messages.{AreRefusals}
use Rattle.refspec_io.specs.Read.{AreRead, HasRefused, IsReadOrRefusal}
use Rattle.refspec_io.specs.Refs.{ListsNames}
use Rattle.refspec_io.specs.Shown.{KeepsResults}
use Rattle.refspec_io.specs.Texts.{Given, argument_at, given_of, numbered, said}
use Rattle.refspec_fetch.specs.Answer.{Answer as FetchAnswer, IsAnswer, IsStatus, Question, asks_stale, asks_updates}
use Rattle.refspec_fetch.specs.Answer.{takes_all}
use Rattle.refspec_fetch.specs.declared.question.Subject.{Subject}
use Rattle.refspec_fetch.specs.declared.question.Subject.TheVariants as subject
use Rattle.refspec_fetch.specs.declared.report.Style.{Style}
use Rattle.refspec_fetch.specs.Fetch.{ReportsBad}
use Rattle.refspec_fetch.specs.Report.{AddsAnswer, Report}
use Rattle.refspec_request.specs.declared.arguments.Request.{Request}
use Rattle.refspec_request.specs.declared.arguments.Subcommand.{Subcommand}
use Rattle.refspec_request.specs.declared.ask.GitCall.TheVariants as call
use Rattle.refspec_request.specs.declared.choice.Choice.{Choice}
use Rattle.refspec_request.specs.declared.choice.Repository.{Repository}
use Rattle.refspec_request.specs.declared.output.Output.{Output}
use Rattle.refspec_request.specs.Calls.{requested}
use Rattle.refspec_git.specs.declared.answer.Answer.{Answer}
use Rattle.refspec_git.specs.declared.answer.Answer.TheVariants as answer
use Rattle.refspec_git.specs.declared.answer.Stop.{Stop}
use Rattle.refspec_git.specs.declared.answer.Stop.TheVariants as stop
use Rattle.refspec_git.specs.declared.plan.Fetch.{Fetch}
use Rattle.refspec_git.specs.declared.specs.Specs.{Specs}
use Rattle.refspec_git.specs.Wanted.{MapsBy, RefusesMapping, is_stale}

-- the texts of specs among the arguments
abbrev pub given_texts : List (List ℕ) → List Given
given_texts given = numbered (argument_at operation.Fetch) 1 given

-- the texts of the specs of a fetch: the given ones, and then the configured ones
abbrev pub texts_in : Specs → List Given
texts_in s = given_texts (map (λ t. t.bytes.items) s.given.items) ++ map given_of s.configured.items

-- some text is refused, and the report grew by the refusals alone
pub record RefusesTexts (texts : List Given) (old new : Report) : Type 0 where
  pub some : HasRefused (map said texts)
  pub objects : AddsObjects old.form IsReadOrRefusal texts old.results new.results
  pub messages : old.messages ≡ [] → AreRefusals old.form texts new.messages
  pub form : new.form ≡ old.form

-- a merged ref: without a name it is `HEAD`
abbrev pub merged_name : List ℕ → List ℕ
merged_name [] = codes "HEAD"
merged_name (b ∷ bytes) = b ∷ bytes

-- some of the merged refs, in order
abbrev pub AreAmong : List (List ℕ) → List (List ℕ) → Type 0
AreAmong [] kept = kept ≡ []
AreAmong (m ∷ merges) kept =
    AreAmong merges kept ⊎ ((rest : List (List ℕ)) × AreAmong merges rest × (kept ≡ merged_name m ∷ rest))

-- the line of a ref here that isn't symbolic has its name and a space
abbrev pub IsWhole : ℕ → List ℕ → List ℕ → Type 0
IsWhole k line name = line ≡ name ++ (32 ∷ [])

-- the names of the refs here that aren't symbolic: each line has a name, a space and the target of a symbolic ref
abbrev pub AreHere : List ℕ → List (List ℕ) → Type 0
AreHere input names = (lines : List (List ℕ)) × AreRecords 10 lines input × IsMadeFrom IsWhole 0 lines names

-- the refs of the remote, which are all lines of `git ls-remote`, and the names of the refs here, by `git for-each-ref`
pub record AreListed (f : Fetch) (refs local : List Ref) : Type 0 where
  pub remote : ListsNames 10 f.lines.items refs []
  pub here : AreHere f.local.items (map (λ r. r.name) local)

-- the question about a fetch by specs with these readings and with these refs: the first specs, as many as the fetch
-- has given ones, are given, and the others configured
pub record Asks (f : Fetch) (g : List Reading) (refs local : List Ref) (q : Question) : Type 0 where
  pub subject : q.subject ≡ f.subject
  pub given : q.wish.given ≡ take (length f.specs.given.items) g
  pub configured : q.wish.configured ≡ drop (length f.specs.given.items) g
  pub merges : AreAmong (map (λ m. m.now) f.specs.merges.items) q.wish.merges
  pub tags : q.wish.tags ≡ takes_all f.specs.tags
  pub remote : q.refs ≡ refs
  pub here : q.local ≡ local
  pub read : q.unread ≡ []

-- the report kept its form, and its results but for notes in JSON
pub record MayNote (old new : Report) : Type 0 where
  pub form : new.form ≡ old.form
  pub kept : KeepsResults old.form old.results new.results

-- an answer was reported; between notes, if updates are asked for
abbrev pub AddsNoted : Bool → Style → FetchAnswer → Report → Report → Type 0
AddsNoted true style a old new =
    (before : Report) × (behind : Report) × MayNote old before × AddsAnswer style a before behind × MayNote behind new
AddsNoted false style a old new = AddsAnswer style a old new

-- the answer to the question about a fetch was reported, with its status
pub record ReportsAnswer (f : Fetch) (g : List Reading) (refs local : List Ref) (status : ℕ) (old new : Report) :
    Type 0 where
  pub answer : FetchAnswer
  pub asked : Asks f g refs local answer.question
  pub answers : IsAnswer answer
  pub ended : IsStatus answer status
  pub reported : AddsNoted (asks_updates answer.question.subject) f.style answer old new

-- the same for the refs of the remote that `git ls-remote` lists, the refs here that `git for-each-ref` lists, and the
-- readings of the specs
pub record ReportsListed (f : Fetch) (status : ℕ) (old new : Report) : Type 0 where
  pub g : List Reading
  pub refs : List Ref
  pub local : List Ref
  pub read : AreRead (map said (texts_in f.specs)) g
  pub listed : AreListed f refs local
  pub reported : ReportsAnswer f g refs local status old new

-- a fetch was reported; or only the specs that are refused, or the bad lines of `git ls-remote`, with status 1
abbrev pub ReportsFetch : Fetch → ℕ → Report → Report → Type 0
ReportsFetch f status old new =
    ReportsListed f status old new
    ⊎ ((RefusesTexts (texts_in f.specs) old new ⊎ ReportsBad 10 f.lines.items old new) × (status ≡ 1))

-- what a request asks about a fetch
abbrev pub subject_of : Subcommand → Bool → Subject
subject_of c prune = cond (is_stale c) subject.Stale (cond prune subject.Both subject.Updates)

-- how much of each kind of messages a request asks for: all, or at most 20
abbrev pub limit_of : Bool → Limit
limit_of true = limit.All
limit_of false = limit.Twenty

-- the Git commands that list the refs of a remote, and those here if these count
abbrev pub listing : Subject → Bor (List ℕ) → List ℕ
listing s remote = requested (call.Lines remote) ++ cond (asks_stale s) (requested call.Local) []

-- the answer requests these
abbrev pub ListsRefs : Subject → Bor (List ℕ) → Answer → Type 0
ListsRefs s remote (answer.Asks lines) = lines.items ≡ listing s remote
ListsRefs s remote (answer.Reports output) = ⊥

-- a request for a fetch is reported, with the specs that it maps refs by
pub record IsReported (r : Repository) (request : Request) (choice : Choice) (output : Output) : Type 0 where
  pub fetch : Fetch
  pub report : Report
  pub specs : MapsBy r request choice fetch.specs
  pub subject : fetch.subject ≡ subject_of request.command request.prune
  pub long : fetch.style.long ≡ request.long
  pub limit : fetch.style.limit ≡ limit_of request.all
  pub reports : ReportsFetch fetch output.status (record { form = request.form; results = []; messages = [] }) report
  pub results : output.results.items ≡ report.results
  pub messages : output.messages.items ≡ report.messages

-- the answer to it: the Git commands that list refs, or the report
abbrev pub AnswersFetch : Repository → Request → Choice → Answer → Type 0
AnswersFetch r request choice (answer.Asks lines) =
    lines.items ≡ listing (subject_of request.command request.prune) choice.remote
AnswersFetch r request choice (answer.Reports output) = IsReported r request choice output

-- why there is none: its specs are refused, a file fails, or memory runs out
abbrev pub RefusesFetch : Request → Choice → Stop → Type 0
RefusesFetch request choice (stop.Refused e) = RefusesMapping request choice (stop.Refused e)
RefusesFetch request choice (stop.Failed fault) = ⊤
