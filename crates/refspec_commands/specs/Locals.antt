-- The answer to a question of `why` about a local ref, in the terms of the library, and its report: from which refs of
-- a
-- remote each spec of a fetch writes it.
use Rattle.std.specs.Prelude.{◌≡◌, ◌≢◌, ◌⊎◌, ℕ, ◌+◌, Bool, true, List, [], ◌∷◌, ◌++◌, None, Some, MatchBool, map, ⊤}
use Rattle.std.specs.Prelude.{Option, option_map, unwrap_or, codes}
use Rattle.std.specs.Borrow.{Bor}
use Rattle.std.specs.List.{All, AllZip, Any, slice_get}
use Rattle.bstr.specs.Owned.{bstring_bytes}
use Rattle.gix_refspec.specs.Matching.Match.{Ref}
use Rattle.gix_refspec.specs.Matching.RefNames.{IsRefName}
use Rattle.gix_refspec_text.specs.Matching.Side.{Fits}
use Rattle.gix_refspec.specs.Specs.Reading.{Reading}
use Rattle.gix_refspec_text.specs.Texts.Bytes.{star}
use Rattle.gix_refspec_text.specs.Texts.ObjectId.{IsIdText}
use Rattle.gix_refspec_text.specs.Texts.Words.{Lacks}
use Rattle.gix_refspec.specs.Views.Group.{ref_of}
use Rattle.gix_refspec.specs.Views.Spec.{reading_of}
use Rattle.gix_refspec_plan.specs.Matching.Plan.{IsCompleted}
use Rattle.gix_refspec_why.specs.declared.Effect.{Effect as DeclaredEffect}
use Rattle.gix_refspec_why.specs.declared.Fate.TheVariants as fate
use Rattle.gix_refspec_why.specs.declared.Mismatch.{Mismatch}
use Rattle.gix_refspec_why.specs.declared.Mismatch.TheVariants as mismatch
use Rattle.gix_refspec_why.specs.Matching.Why.{AreEach, IsExplained, IsPatternMismatch}
use Rattle.gix_refspec_why.specs.Views.Why.{effect_of}
use Rattle.refspec_json.specs.Objects.{fate_object, line_of}
use Rattle.refspec_io.specs.declared.call.Call.{Call}
use Rattle.refspec_io.specs.declared.call.Form.{Form}
use Rattle.refspec_io.specs.declared.call.Form.TheVariants as form
use Rattle.refspec_io.specs.declared.call.Task.{Task}
use Rattle.refspec_io.specs.Input.{end_byte}
use Rattle.refspec_io.specs.Json.{json_text}
use Rattle.refspec_io.specs.Refs.{ListsNames}
use Rattle.refspec_io.specs.Rows.{AreSpecTexts, IsCell, fields}
use Rattle.refspec_io.specs.Shown.{KeepsResults}
use Rattle.refspec_fetch.specs.Fetch.{ReportsBad}
use Rattle.refspec_fetch.specs.Report.{Report}
use Rattle.refspec_commands.specs.declared.fates.question.Known.{Known}
use Rattle.refspec_commands.specs.declared.fates.question.Known.TheVariants as known
use Rattle.refspec_commands.specs.declared.fates.question.Question.{Question}
use Rattle.refspec_commands.specs.declared.fates.roles.LocalAnswer.{LocalAnswer}
use Rattle.refspec_commands.specs.declared.fates.roles.Role.{Role}
use Rattle.refspec_commands.specs.declared.fates.roles.Role.TheVariants as role
use Rattle.refspec_commands.specs.declared.fates.roles.Source.{Source}
use Rattle.refspec_commands.specs.Each.{AddsEach}
use Rattle.refspec_commands.specs.Fates.{AddsFates, IsStopOf, fate_word, known_by, mismatch_word}

-- ---- the role of a spec

-- the destination d is the name n, or a pattern that matches it
abbrev pub Takes : (d n : List ℕ) → Type 0
Takes d n =
    (Lacks star d × (n ≡ d))
    ⊎ ((before : List ℕ) × (after : List ℕ) × (word : List ℕ) × (d ≡ before ++ (star ∷ after)) × Lacks star before
    × Fits before after n word)

-- it isn't, for this reason
abbrev pub IsMissed : (d n : List ℕ) → Mismatch → Type 0
IsMissed d n m =
    (Lacks star d × (n ≢ d) × (m ≡ mismatch.OtherName))
    ⊎ ((before : List ℕ) × (after : List ℕ) × (d ≡ before ++ (star ∷ after)) × Lacks star before
    × IsPatternMismatch before after n m)

-- the source of the reading is an object id
abbrev pub IsObject : Reading → Type 0
IsObject r = (x : List ℕ) × (id : List ℕ) × (r.source ≡ Some x) × IsIdText x id

-- the source was explained: what each spec of the question does with it, among the refs of the question
abbrev pub IsSource : Question → Source → Type 0
IsSource q s =
    IsExplained (map reading_of q.specs.now) (map ref_of q.refs.now) (bstring_bytes s.name) s.effects.item_index
    (map effect_of s.effects.of_specs.items)

-- the remote is known to lack the ref
abbrev pub IsLacked : Known → Option ℕ → Type 0
IsLacked known.Assumed index = ⊥
IsLacked known.Listed index = index ≡ None

-- the spec at index k maps the source at index i to the ref of the question
pub record MapsSource (q : Question) (sources : List Source) (k i : ℕ) : Type 0 where
  pub source : Source
  pub effect : DeclaredEffect
  pub at : slice_get sources i ≡ Some source
  pub by : slice_get source.effects.of_specs.items k ≡ Some effect
  pub destination : (effect_of effect).destination ≡ Some q.name.now

-- the role of a spec that maps a source to the ref: the remote lacks that, or this becomes of it
abbrev pub IsRoleOf : Question → List Source → ℕ → Role → Type 0
IsRoleOf q sources k (role.Missing i) =
    (maps : MapsSource q sources k i) × IsLacked q.known maps.source.effects.item_index
IsRoleOf q sources k (role.Mapped m) =
    (maps : MapsSource q sources k m.source) × ¬ (IsLacked q.known maps.source.effects.item_index)
    × (m.fate ≡ maps.effect.fate)
IsRoleOf q sources k _ = ⊥

-- the role of the spec at index k, whose reading with a completed destination this is
abbrev pub HasRole : Question → List Source → ℕ → Reading → Role → Type 0
HasRole q sources k r role.NoDestination = r.destination ≡ None
HasRole q sources k r (role.Unmatched m) =
    (d : List ℕ) × (r.destination ≡ Some d) × IsMissed d q.name.now m
HasRole q sources k r role.Object =
    (d : List ℕ) × (r.destination ≡ Some d) × Takes d q.name.now × IsObject r
HasRole q sources k r (role.Missing i) = IsRoleOf q sources k (role.Missing i)
HasRole q sources k r (role.Mapped m) = IsRoleOf q sources k (role.Mapped m)

-- so it is for each of these readings
abbrev pub AreRoles : Question → List Source → List Reading → List Role → Type 0
AreRoles q sources completed roles = AreEach (HasRole q sources) completed roles

-- ---- the answer

-- what each spec has to do with the ref, what becomes of its sources, and what stops the whole fetch
pub record IsLocalAnswer (q : Question) (a : LocalAnswer) : Type 0 where
  pub completed : List Reading
  pub are : AllZip IsCompleted (map reading_of q.specs.now) completed
  pub sources : All (IsSource q) a.sources.items
  pub roles : AreRoles q a.sources.items completed a.roles.items
  pub texts : AreSpecTexts (map reading_of q.specs.now) (map bstring_bytes a.texts.items)
  pub stop : IsStopOf q.known (map reading_of q.specs.now) (map ref_of q.refs.now) a.stop

-- a spec of this role writes the ref
abbrev pub Writes : Role → Type 0
Writes role.Object = ⊤
Writes (role.Mapped m) = m.fate ≡ fate.Written
Writes _ = ⊥

-- some spec does so, or none
abbrev pub WritesAny : List Role → Type 0
WritesAny roles = Any Writes roles

abbrev pub WritesNothing : List Role → Type 0
WritesNothing roles = All (λ r. ¬ (Writes r)) roles

-- a fetch writes the ref of this name: that is a valid one, some spec writes it, and nothing stops the fetch
abbrev pub IsWritten : List ℕ → LocalAnswer → Type 0
IsWritten n a = IsRefName n × WritesAny a.roles.items × (a.stop ≡ None)

-- it doesn't
abbrev pub IsUnwritten : List ℕ → LocalAnswer → Type 0
IsUnwritten n a = ¬ (IsRefName n) ⊎ WritesNothing a.roles.items ⊎ (a.stop ≢ None)

-- ---- the report

-- what becomes of the ref by a spec, in a word
abbrev pub role_word : Role → List ℕ
role_word role.NoDestination = codes "no_destination"
role_word (role.Unmatched m) = mismatch_word m
role_word role.Object = codes "object"
role_word (role.Missing i) = codes "missing"
role_word (role.Mapped m) = fate_word m.fate

-- the ref of the remote that a spec maps to it, if it maps one
abbrev pub role_source : List (List ℕ) → Role → Option (List ℕ)
role_source sources (role.Missing i) = slice_get sources i
role_source sources (role.Mapped m) = slice_get sources m.source
role_source sources _ = None

-- what a spec has to do with the ref, with its canonical text
pub record Part : Type 0 where
  pub text : List ℕ
  pub source : Option (List ℕ)
  pub word : List ℕ

-- that of the spec at the index k, which has this role
abbrev pub part_at : ℕ → (texts sources : List (List ℕ)) → Role → Part
part_at k texts sources r =
    record { text = unwrap_or (slice_get texts k) []; source = role_source sources r; word = role_word r }

-- those of the specs from the index k on
abbrev pub parts_from : ℕ → (texts sources : List (List ℕ)) → List Role → List Part
parts_from k texts sources [] = []
parts_from k texts sources (r ∷ roles) = part_at k texts sources r ∷ parts_from (k + 1) texts sources roles

-- a line: a cell of the spec, and a sentence
abbrev pub IsPartLine : Part → List ℕ → Type 0
IsPartLine p line = (cell : List ℕ) × (sentence : List ℕ) × IsCell p.text cell × (line ≡ cell ++ (sentence ++ 10 ∷ []))

-- a record of three fields: the spec, the word, and the source, empty if there is none
abbrev pub part_fields : Part → List ℕ
part_fields p = fields (record { destination = p.text; source = p.word; spec = unwrap_or p.source [] })

-- an object, with a sentence: as for a ref of the remote if the spec maps one, and else for the local ref
abbrev pub IsPartObject : (name : List ℕ) → Part → List ℕ → Type 0
IsPartObject name p line = (message : List ℕ)
    × (line ≡ line_of (fate_object (json_text p.text) (json_text (unwrap_or p.source name))
    (option_map (λ s. json_text name) p.source) p.word message))

-- what the results have for a spec
abbrev pub IsPart : Form → (name : List ℕ) → Part → List ℕ → Type 0
IsPart form.Lines name p line = IsPartLine p line
IsPart form.Zeros name p line = line ≡ part_fields p
IsPart form.Json name p line = IsPartObject name p line

-- the names of the sources
abbrev pub names_of : List Source → List (List ℕ)
names_of sources = map (λ s. bstring_bytes s.name) sources

-- the results grew by what each spec has to do with the ref of this name; in JSON there may be a message after that
pub record AddsLocalAnswer (f : Form) (name : List ℕ) (a : LocalAnswer) (old new : List ℕ) : Type 0 where
  pub last : List ℕ
  pub reported : AddsEach (IsPart f name) (parts_from 0 (map bstring_bytes a.texts.items)
      (names_of a.sources.items) a.roles.items) old last
  pub after : KeepsResults f last new

-- ---- `refspec why --local`

-- the results grew by what specs with these readings have to do with the local ref of a call, given these refs of the
-- remote; whether it isn't written
pub record ExplainsLocal (call : Call) (g : List Reading) (listed : List Ref) (refused : Bool) (f : Form)
    (old new : List ℕ) :
    Type 0 where
  pub question : Question
  pub answer : LocalAnswer
  pub name : question.name.now ≡ call.local.now
  pub specs : map reading_of question.specs.now ≡ g
  pub refs : map ref_of question.refs.now ≡ listed
  pub known : question.known ≡ known_by call.reads_input
  pub answered : IsLocalAnswer question answer
  pub reported : AddsLocalAnswer f question.name.now answer old new
  pub status : MatchBool refused (IsUnwritten question.name.now answer) (IsWritten question.name.now answer)

-- the same for the refs in the input; or a record of that is bad, and only that is reported
abbrev pub AddsRoles : Task → List Reading → Bool → Report → Report → Type 0
AddsRoles task g refused old new =
    ((refused ≡ true) × ReportsBad (end_byte task.call.now.ends) task.input.now old new)
    ⊎ ((refs : List Ref) × ListsNames (end_byte task.call.now.ends) task.input.now refs []
    × ExplainsLocal task.call.now g refs refused old.form old.results new.results)

-- a call names a ref of the remote, or it is about its local ref
abbrev pub AddsAsked : List (Bor (List ℕ)) → Task → List Reading → Bool → Report → Report → Type 0
AddsAsked [] task g refused old new = AddsRoles task g refused old new
AddsAsked (n ∷ names) task g refused old new = AddsFates task g refused old new

-- what `refspec why` reports
abbrev pub AddsWhy : Task → List Reading → Bool → Report → Report → Type 0
AddsWhy task g refused old new = AddsAsked task.call.now.refs.items task g refused old new
