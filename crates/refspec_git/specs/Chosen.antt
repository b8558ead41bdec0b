-- The remotes and the specs that the arguments of `git refspec check` choose. This project's own rule.
use Rattle.std.specs.Prelude.{◌≡◌, ◌≢◌, ◌⊎◌, ◌↔◌, ◌+◌, ◌<◌, ◌≤◌, ◌++◌, ⊤, ℕ, Bool, IsTrue, List, [], ◌∷◌, Option, None}
use Rattle.std.specs.Prelude.{MatchOption, Some, codes, cond, length, map, option_map, option_to_list}
use Rattle.std.specs.Borrow.{Bor}
use Rattle.std.specs.BTreeSet.{BTreeSet, btree_set_len, contains_by}
use Rattle.std.specs.Cmp.Lexicographic.{slice_cmp}
use Rattle.std.specs.List.{All, Any, Contains}
use Rattle.std.specs.Ordering.{nat_cmp}
use Rattle.std.specs.Str.{IsUtf8}
use Rattle.gix_refspec.specs.Specs.Reading.{Reading}
use Rattle.gix_refspec_text.specs.declared.parsing.Operation.{Operation}
use Rattle.gix_refspec_text.specs.declared.parsing.Operation.TheVariants as operation
use Rattle.refspec_io.specs.declared.call.Form.{Form}
use Rattle.refspec_io.specs.declared.fault.Fault.TheVariants as fault
use Rattle.refspec_io.specs.declared.report.Report.{Report}
use Rattle.refspec_io.specs.declared.settings.Setting.{Setting}
use Rattle.refspec_io.specs.Read.{AreRead, HasRefused}
use Rattle.refspec_io.specs.Settings.{HasLacking}
use Rattle.refspec_io.specs.Texts.{AreValues, Given, argument_at, numbered, said}
use Rattle.refspec_request.specs.declared.arguments.Request.{Request}
use Rattle.refspec_request.specs.declared.choice.Looks.TheVariants as looks
use Rattle.refspec_request.specs.declared.choice.Repository.{Repository}
use Rattle.refspec_request.specs.declared.refusal.Refusal.{Refusal}
use Rattle.refspec_request.specs.declared.refusal.Refusal.TheVariants as refusal
use Rattle.refspec_request.specs.Choices.{HasNoOldForm, IsOldForm, NamesRemote}
use Rattle.refspec_request.specs.Settings.{IsKeyWhere}
use Rattle.refspec_request.specs.Words.{LooksLike}
use Rattle.refspec_git.specs.declared.answer.Stop.{Stop}
use Rattle.refspec_git.specs.declared.answer.Stop.TheVariants as stop
use Rattle.refspec_git.specs.declared.chosen.Chosen.{Chosen}
use Rattle.refspec_git.specs.declared.chosen.Named.{Named}

-- an argument with this number, counted from 0, is a spec behind `--`, and without `--` by its looks
abbrev pub IsSpecAt : Option ℕ → ℕ → List ℕ → Type 0
IsSpecAt None number argument = LooksLike argument looks.Spec ⊎ LooksLike argument looks.Either
IsSpecAt (Some before) number argument = before ≤ number

-- it is none
abbrev pub IsNoSpecAt : Option ℕ → ℕ → List ℕ → Type 0
IsNoSpecAt None number argument = LooksLike argument looks.Url ⊎ LooksLike argument looks.Plain
IsNoSpecAt (Some before) number argument = number < before

-- an argument names a remote to check, as no option does
abbrev pub IsRemote : Request → Repository → List ℕ → Type 0
IsRemote request r argument = (request.remote ≡ None) × NamesRemote r argument

-- it is a spec to check: each is one with --remote, and else one that names no remote
abbrev pub IsSpec : Request → Repository → ℕ → List ℕ → Type 0
IsSpec request r number argument =
    (request.remote ≢ None) ⊎ (¬ (NamesRemote r argument) × IsSpecAt request.dashes number argument)

-- why an argument is neither
abbrev pub RefusesArgument : Request → Repository → ℕ → List ℕ → Refusal → Type 0
RefusesArgument request r number argument (refusal.NoRemoteNoSpec text) = (text.now ≡ argument)
    × (request.remote ≡ None) × ¬ (NamesRemote r argument) × IsNoSpecAt request.dashes number argument
RefusesArgument request r number argument _ = ⊥

-- why a spec is refused: it isn't UTF-8
abbrev pub RefusesText : List ℕ → Refusal → Type 0
RefusesText argument (refusal.NotUtf8 text) = (text.now ≡ argument) × ¬ (IsUtf8 argument)
RefusesText argument _ = ⊥

-- why an argument with this number is refused
abbrev pub RefusesNext : Request → Repository → ℕ → List ℕ → Refusal → Type 0
RefusesNext request r number argument e = RefusesArgument request r number argument e
    ⊎ (IsSpec request r number argument × RefusesText argument e)

-- the same, if memory runs out too
abbrev pub StopsAt : Request → Repository → ℕ → List ℕ → Stop → Type 0
StopsAt request r number argument (stop.Refused e) = RefusesNext request r number argument e
StopsAt request r number argument (stop.Failed f) = f ≡ fault.Memory

-- arguments from a number on are these remotes and these specs, in order
abbrev pub AreSplit : Request → Repository → ℕ → List (List ℕ) → List (List ℕ) → List (List ℕ) → Type 0
AreSplit request r k [] names specs = (names ≡ []) × (specs ≡ [])
AreSplit request r k (a ∷ arguments) names specs =
    (IsRemote request r a × (more : List (List ℕ)) × AreSplit request r (k + 1) arguments more specs
    × (names ≡ a ∷ more))
    ⊎ (IsSpec request r k a × (more : List (List ℕ)) × AreSplit request r (k + 1) arguments names more
    × (specs ≡ a ∷ more))

-- a set has exactly these names
abbrev pub HasNames : BTreeSet (Bor (List ℕ)) → List (List ℕ) → Type 0
HasNames set names = (name : List ℕ)
    → IsTrue (contains_by (λ n. slice_cmp nat_cmp name n.now) set) ↔ Contains names name

-- the remote of `--remote`, if there is one
abbrev pub remote_of : Request → List (List ℕ)
remote_of request = option_to_list (option_map (λ n. n.now) request.remote)

-- what `--remote` and the first arguments name
pub record AreNamed (request : Request) (r : Repository) (arguments : List (List ℕ)) (set : BTreeSet (Bor (List ℕ)))
    (specs : List (List ℕ)) : Type 0 where
  pub names : List (List ℕ)
  pub known : All (NamesRemote r) (remote_of request)
  pub split : AreSplit request r 0 arguments names specs
  pub named : HasNames set (remote_of request ++ names)

abbrev pub HasNamed : Request → Repository → List (List ℕ) → Named → Type 0
HasNamed request r arguments n = AreNamed request r arguments n.remotes (map (λ s. s.now) n.specs.items)

-- why a call names none: there is no remote as `--remote` says, or for the first argument that is refused
abbrev pub RefusesRemote : Request → Repository → Refusal → Type 0
RefusesRemote request r (refusal.NoRemoteNoSpec text) =
    (remote_of request ≡ text.now ∷ []) × ¬ (NamesRemote r text.now)
RefusesRemote request r _ = ⊥

pub record RefusesOne (request : Request) (r : Repository) (e : Refusal) : Type 0 where
  pub front : List (List ℕ)
  pub at : List ℕ
  pub back : List (List ℕ)
  pub names : List (List ℕ)
  pub specs : List (List ℕ)
  pub parts : map (λ a. a.now) request.arguments.items ≡ front ++ at ∷ back
  pub split : AreSplit request r 0 front names specs
  pub refuses : RefusesNext request r (length front) at e

abbrev pub RefusesNamed : Request → Repository → Stop → Type 0
RefusesNamed request r (stop.Refused e) = RefusesRemote request r e ⊎ RefusesOne request r e
RefusesNamed request r (stop.Failed f) = f ≡ fault.Memory

-- a call names neither a remote nor a spec
abbrev pub NamesNothing : Request → Type 0
NamesNothing request = (request.remote ≡ None) × (request.arguments.items ≡ [])

-- what a call chooses: all remotes and no spec; or what it names, of which no remote has a file of its own
pub record AreNames (request : Request) (r : Repository) (set : BTreeSet (Bor (List ℕ))) (specs : List (List ℕ)) :
    Type 0 where
  pub some : ¬ (NamesNothing request)
  pub named : AreNamed request r (map (λ a. a.now) request.arguments.items) set specs
  pub configured : All (λ n. HasNoOldForm r n.now) set.keys

abbrev pub AreAll : Request → List (List ℕ) → Type 0
AreAll request specs = NamesNothing request × (specs ≡ [])

abbrev pub AreChosen : Request → Repository → Chosen → Type 0
AreChosen request r c = MatchOption c.remotes (AreAll request (map (λ s. s.now) c.specs.items))
    (λ set. AreNames request r set (map (λ s. s.now) c.specs.items))

-- why it chooses nothing: as it names none, or a remote that has a file of its own
abbrev pub RefusesOld : Request → Repository → Stop → Type 0
RefusesOld request r (stop.Refused e) = (set : BTreeSet (Bor (List ℕ))) × (specs : List (List ℕ))
    × AreNamed request r (map (λ a. a.now) request.arguments.items) set specs
    × Any (λ n. IsOldForm r n.now e) set.keys
RefusesOld request r (stop.Failed f) = ⊥

abbrev pub RefusesChosen : Request → Repository → Stop → Type 0
RefusesChosen request r s = ¬ (NamesNothing request) × (RefusesNamed request r s ⊎ RefusesOld request r s)

-- the arguments name remotes
abbrev pub NamesRemotes : Chosen → Type 0
NamesRemotes c = MatchOption c.remotes ⊥ (λ set. btree_set_len set ≢ 0)

-- remotes are checked, and not specs alone
abbrev pub HasRemotes : Chosen → Type 0
HasRemotes c = (c.remotes ≡ None) ⊎ NamesRemotes c

-- the operation of the specs: that of a push with --push
abbrev pub operation_for : Bool → Operation
operation_for push = cond push operation.Push operation.Fetch

-- specs as texts, numbered from 1
abbrev pub spec_texts : Operation → List (List ℕ) → List Given
spec_texts op specs = numbered (argument_at op) 1 specs

-- a remote is one of these, or any
abbrev pub IsAmong : Option (BTreeSet (Bor (List ℕ))) → List ℕ → Type 0
IsAmong None name = ⊤
IsAmong (Some names) name = IsTrue (contains_by (λ n. slice_cmp nat_cmp name n.now) names)

-- a variable of a remote holds specs
abbrev pub HoldsSpecs : List ℕ → Type 0
HoldsSpecs variable = (variable ≡ codes "fetch") ⊎ (variable ≡ codes "push")

-- a setting is a fetch or push value of one of these remotes
abbrev pub IsValueOf : Option (BTreeSet (Bor (List ℕ))) → Setting → Type 0
IsValueOf names s = IsKeyWhere (codes "remote") (λ name variable. IsAmong names name × HoldsSpecs variable) s.key.now

-- those among settings, in order
abbrev pub AreValuesOf : Option (BTreeSet (Bor (List ℕ))) → List Setting → List Setting → Type 0
AreValuesOf names [] values = values ≡ []
AreValuesOf names (s ∷ settings) values =
    (IsValueOf names s × (rest : List Setting) × AreValuesOf names settings rest × (values ≡ s ∷ rest))
    ⊎ (¬ (IsValueOf names s) × AreValuesOf names settings values)

-- no value is missing, and each is a spec: else Git refuses to use any remote
abbrev pub AreUsable : List Setting → Type 0
AreUsable values = ¬ (HasLacking values) × (texts : List Given) × AreValues values texts
    × (g : List Reading) × AreRead (map said texts) g

-- a value is missing or refused
abbrev pub HasUnusable : List Setting → Type 0
HasUnusable values =
    HasLacking values ⊎ ((texts : List Given) × AreValues values texts × HasRefused (map said texts))

-- the report on values, of which some are unusable, in this form
abbrev pub ReportsUnusable : List Setting → Form → Report → Type 0
ReportsUnusable values form report = HasUnusable values × (report.form ≡ form)
