-- The answer to a question of `why`, in the terms of the library, and its report: what each spec of a fetch does with
-- one ref of a remote.
use Rattle.std.specs.Prelude.{◌≡◌, ◌≢◌, ◌⊎◌, ℕ, ◌+◌, Bool, true, false, List, [], ◌∷◌, ◌++◌, None, MatchBool, map}
use Rattle.std.specs.Prelude.{MatchOption, Option, option_map, unwrap_or, codes}
use Rattle.std.specs.Borrow.{Bor}
use Rattle.std.specs.List.{All, Any, slice_get}
use Rattle.bstr.specs.Owned.{bstring_bytes}
use Rattle.gix_refspec.specs.Matching.Match.{Ref}
use Rattle.gix_refspec.specs.Specs.Reading.{Reading}
use Rattle.gix_refspec.specs.Views.Group.{ref_of}
use Rattle.gix_refspec.specs.Views.Spec.{reading_of}
use Rattle.gix_refspec_plan.specs.declared.Origin.{Origin}
use Rattle.gix_refspec_plan.specs.Matching.Plan.{IsCarriedOut, IsPlan, Planned, Wish}
use Rattle.gix_refspec_why.specs.declared.Effect.{Effect as DeclaredEffect}
use Rattle.gix_refspec_why.specs.declared.Fate.{Fate}
use Rattle.gix_refspec_why.specs.declared.Fate.TheVariants as fate
use Rattle.gix_refspec_why.specs.declared.Mismatch.{Mismatch}
use Rattle.gix_refspec_why.specs.declared.Mismatch.TheVariants as mismatch
use Rattle.gix_refspec_why.specs.Matching.Why.{Effect, IsExplained}
use Rattle.gix_refspec_why.specs.Views.Why.{effect_of}
use Rattle.refspec_json.specs.Objects.{fate_object, line_of}
use Rattle.refspec_io.specs.declared.call.Call.{Call}
use Rattle.refspec_io.specs.declared.call.Form.{Form}
use Rattle.refspec_io.specs.declared.call.Form.TheVariants as form
use Rattle.refspec_io.specs.declared.call.Task.{Task}
use Rattle.refspec_io.specs.Input.{end_byte}
use Rattle.refspec_io.specs.Json.{json_text}
use Rattle.refspec_io.specs.Refs.{ListsNames}
use Rattle.refspec_io.specs.Rows.{AreSpecTexts, IsCell, fields}
use Rattle.refspec_io.specs.Shown.{KeepsResults}
use Rattle.refspec_fetch.specs.Fetch.{ReportsBad}
use Rattle.refspec_fetch.specs.Report.{Report}
use Rattle.refspec_commands.specs.declared.fates.answer.Answer.{Answer}
use Rattle.refspec_commands.specs.declared.fates.question.Known.{Known}
use Rattle.refspec_commands.specs.declared.fates.question.Known.TheVariants as known
use Rattle.refspec_commands.specs.declared.fates.question.Question.{Question}
use Rattle.refspec_commands.specs.declared.fates.stops.Stop.{Stop}
use Rattle.refspec_commands.specs.Each.{AddsEach}

-- ---- the answer

-- a fetch with nothing but configured specs of these readings
abbrev pub wish_of : List Reading → Wish
wish_of g = record { given = []; configured = g; merges = []; tags = false }

-- what stops that: something exactly if the plan isn't carried out
pub record StopsFetch (g : List Reading) (refs : List Ref) (stop : Option Stop) : Type 0 where
  pub planned : List Planned
  pub missing : List Origin
  pub plan : IsPlan (wish_of g) refs planned missing
  pub stops : MatchOption stop (IsCarriedOut planned missing) (λ _. ¬ (IsCarriedOut planned missing))

-- if the refs of the remote are known
abbrev pub IsStopOf : Known → List Reading → List Ref → Option Stop → Type 0
IsStopOf known.Assumed g refs stop = stop ≡ None
IsStopOf known.Listed g refs stop = StopsFetch g refs stop

-- what the specs do with the ref, their canonical texts, and what stops the whole fetch
pub record IsAnswer (q : Question) (a : Answer) : Type 0 where
  pub explained : IsExplained (map reading_of q.specs.now) (map ref_of q.refs.now) q.name.now a.effects.item_index
      (map effect_of a.effects.of_specs.items)
  pub texts : AreSpecTexts (map reading_of q.specs.now) (map bstring_bytes a.texts.items)
  pub stop : IsStopOf q.known (map reading_of q.specs.now) (map ref_of q.refs.now) a.stop

-- some spec fetches the ref, or none does
abbrev pub WritesSome : List DeclaredEffect → Type 0
WritesSome effects = Any (λ e. e.fate ≡ fate.Written) effects

abbrev pub WritesNone : List DeclaredEffect → Type 0
WritesNone effects = All (λ e. e.fate ≢ fate.Written) effects

-- the ref is fetched: some spec does so, and the remote is taken to have it; or has it, and nothing stops the fetch
abbrev pub IsFetched : Known → Answer → Type 0
IsFetched known.Assumed a = WritesSome a.effects.of_specs.items
IsFetched known.Listed a =
    (a.effects.item_index ≢ None) × WritesSome a.effects.of_specs.items × (a.stop ≡ None)

-- it isn't
abbrev pub IsUnfetched : Known → Answer → Type 0
IsUnfetched known.Assumed a = WritesNone a.effects.of_specs.items
IsUnfetched known.Listed a =
    (a.effects.item_index ≡ None) ⊎ WritesNone a.effects.of_specs.items ⊎ (a.stop ≢ None)

-- ---- the report

-- why a source doesn't match, in a word
abbrev pub mismatch_word : Mismatch → List ℕ
mismatch_word mismatch.NoSource = codes "no_source"
mismatch_word (mismatch.Prefix count) = codes "prefix"
mismatch_word (mismatch.Suffix count) = codes "suffix"
mismatch_word mismatch.Overlap = codes "overlap"
mismatch_word mismatch.OtherName = codes "other_name"
mismatch_word mismatch.Object = codes "object"
mismatch_word mismatch.NoCandidate = codes "no_candidate"
mismatch_word (mismatch.EarlierCandidate index) = codes "earlier_candidate"

-- what becomes of a ref, in a word
abbrev pub fate_word : Fate → List ℕ
fate_word (fate.Unmatched m) = mismatch_word m
fate_word (fate.Excludes word) = codes "excludes"
fate_word (fate.Excluded by) = codes "excluded"
fate_word fate.InvalidName = codes "invalid_name"
fate_word fate.InvalidDestination = codes "invalid_destination"
fate_word (fate.Duplicate k) = codes "duplicate"
fate_word (fate.InConflict rival) = codes "conflict"
fate_word (fate.DirectoryConflict rival) = codes "directory_conflict"
fate_word fate.Written = codes "fetched"

-- what a spec does, with its canonical text
pub record Verdict : Type 0 where
  pub text : List ℕ
  pub effect : Effect

-- the verdicts of specs from the index k on
abbrev pub verdicts_from : ℕ → (texts : List (List ℕ)) → List DeclaredEffect → List Verdict
verdicts_from k texts [] = []
verdicts_from k texts (e ∷ effects) =
    record { text = unwrap_or (slice_get texts k) []; effect = effect_of e } ∷ verdicts_from (k + 1) texts effects

-- a line: a cell of the spec, and a sentence
abbrev pub IsVerdictLine : Verdict → List ℕ → Type 0
IsVerdictLine v line = (cell : List ℕ) × (sentence : List ℕ) × IsCell v.text cell
    × (line ≡ cell ++ (sentence ++ 10 ∷ []))

-- a record of three fields: the spec, what becomes of the ref in a word, and the destination, empty if there is none
abbrev pub verdict_fields : Verdict → List ℕ
verdict_fields v =
    fields (record {
      destination = v.text;
      source = fate_word v.effect.fate;
      spec = unwrap_or v.effect.destination [];
    })

-- an object, with a sentence
abbrev pub IsVerdictObject : (name : List ℕ) → Verdict → List ℕ → Type 0
IsVerdictObject name v line = (message : List ℕ)
    × (line ≡ line_of (fate_object (json_text v.text) (json_text name) (option_map json_text v.effect.destination)
    (fate_word v.effect.fate) message))

-- what the results have for a spec
abbrev pub IsVerdict : Form → (name : List ℕ) → Verdict → List ℕ → Type 0
IsVerdict form.Lines name v line = IsVerdictLine v line
IsVerdict form.Zeros name v line = line ≡ verdict_fields v
IsVerdict form.Json name v line = IsVerdictObject name v line

-- the results grew by what each spec does with the ref of this name; in JSON there may be a message after that
pub record AddsAnswer (f : Form) (name : List ℕ) (a : Answer) (old new : List ℕ) : Type 0 where
  pub last : List ℕ
  pub reported : AddsEach (IsVerdict f name) (verdicts_from 0 (map bstring_bytes a.texts.items)
      a.effects.of_specs.items) old last
  pub after : KeepsResults f last new

-- ---- `refspec why`

-- the ref that a call is about
abbrev pub asked_name : List (Bor (List ℕ)) → List ℕ
asked_name [] = []
asked_name (n ∷ names) = n.now

-- the refs of the remote are known if the call reads them
abbrev pub known_by : Bool → Known
known_by true = known.Listed
known_by false = known.Assumed

-- the results grew by what specs with these readings do with the ref of a call, among these refs; whether it isn't
-- fetched
pub record Explains (call : Call) (g : List Reading) (listed : List Ref) (refused : Bool) (f : Form)
    (old new : List ℕ) :
    Type 0 where
  pub question : Question
  pub answer : Answer
  pub name : question.name.now ≡ asked_name call.refs.items
  pub specs : map reading_of question.specs.now ≡ g
  pub refs : map ref_of question.refs.now ≡ listed
  pub known : question.known ≡ known_by call.reads_input
  pub answered : IsAnswer question answer
  pub reported : AddsAnswer f question.name.now answer old new
  pub status : MatchBool refused (IsUnfetched question.known answer) (IsFetched question.known answer)

-- the same for the refs in the input; or a record of that is bad, and only that is reported
abbrev pub AddsFates : Task → List Reading → Bool → Report → Report → Type 0
AddsFates task g refused old new =
    ((refused ≡ true) × ReportsBad (end_byte task.call.now.ends) task.input.now old new)
    ⊎ ((refs : List Ref) × ListsNames (end_byte task.call.now.ends) task.input.now refs []
    × Explains task.call.now g refs refused old.form old.results new.results)
