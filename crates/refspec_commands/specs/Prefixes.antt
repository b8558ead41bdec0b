-- What `prefixes` requests from a server, and its output, in the terms of the library.
use Rattle.std.specs.Prelude.{◌≡◌, ◌≢◌, ◌⊎◌, ℕ, Bool, List, [], ◌∷◌, ◌++◌, Some, map, codes, cond}
use Rattle.std.specs.List.{flat_map}
use Rattle.bstr.specs.Owned.{bstring_bytes}
use Rattle.gix_refspec.specs.Matching.Asked.{Requests, RequestsBeside}
use Rattle.gix_refspec.specs.declared.match_group.prefixes.RefPrefixes.{RefPrefixes}
use Rattle.gix_refspec.specs.declared.match_group.prefixes.RefPrefixes.TheVariants as requested
use Rattle.gix_refspec.specs.Matching.RefNames.{IsRefName}
use Rattle.gix_refspec.specs.Specs.Grammar.{IsPositive}
use Rattle.gix_refspec.specs.Specs.Meaning.{printed}
use Rattle.gix_refspec.specs.Specs.Reading.{Reading, remote_of}
use Rattle.gix_refspec.specs.Views.Spec.{reading_of}
use Rattle.gix_refspec_match.specs.Matching.Lists.{IsJoinedFrom}
use Rattle.gix_refspec_text.specs.Matching.Side.{candidates}
use Rattle.gix_refspec_text.specs.Texts.Name.{IsName}
use Rattle.refspec_json.specs.Objects.{all_object, line_of, noted_object, nothing_object, prefix_object}
use Rattle.refspec_io.specs.declared.call.Form.{Form}
use Rattle.refspec_io.specs.declared.call.Form.TheVariants as form
use Rattle.refspec_io.specs.Json.{AddsObjects, json_text}
use Rattle.refspec_io.specs.Shown.{AddsNames}
use Rattle.refspec_commands.specs.declared.prefixes.answer.Answer.{Answer}
use Rattle.refspec_commands.specs.declared.prefixes.answer.Answer.TheVariants as answer
use Rattle.refspec_commands.specs.declared.prefixes.report.Notation.{Notation}
use Rattle.refspec_commands.specs.declared.prefixes.report.Notation.TheVariants as notation

-- what precedes a prefix in a line: the name of its argument in protocol v2, and nothing before a pattern
abbrev pub argument : Notation → List ℕ
argument notation.Pattern = []
argument notation.Argument = codes "ref-prefix "

-- what is requested: the prefix, or the pattern that matches all names with this prefix
abbrev pub request : Notation → List ℕ → List ℕ
request notation.Pattern prefix = prefix ++ (42 ∷ [])
request notation.Argument prefix = prefix

-- the object of a spec for which all refs must be requested, and a sentence on it
pub record IsReasonObject (r : Reading) (line : List ℕ) : Type 0 where
  pub text : List ℕ
  pub message : List ℕ
  pub is_text : printed r ≡ Some text
  pub is : line ≡ line_of (noted_object (codes "all") (json_text text) message)

-- the line that stands for all refs: the pattern `*`, or `(all)`
abbrev pub all_line : Notation → List ℕ
all_line notation.Pattern = codes "*\n"
all_line notation.Argument = codes "(all)\n"

-- the record that stands for all refs: the same pattern, or the empty prefix, ended by a zero byte
abbrev pub all_field : Notation → List ℕ
all_field notation.Pattern = 42 ∷ 0 ∷ []
all_field notation.Argument = 0 ∷ []

-- the results grew by that, or in JSON by the objects of the specs that are the reason
abbrev pub AddsAll : Notation → Form → List Reading → List ℕ → List ℕ → Type 0
AddsAll n form.Lines g old new = new ≡ old ++ all_line n
AddsAll n form.Zeros g old new = new ≡ old ++ all_field n
AddsAll n form.Json g old new = AddsObjects form.Json IsReasonObject g old new

-- the results grew by the report that no request is needed: a line, no record, or an object with a sentence
abbrev pub AddsNothing : Form → List ℕ → List ℕ → Type 0
AddsNothing form.Lines old new = new ≡ old ++ codes "(nothing)\n"
AddsNothing form.Zeros old new = new ≡ old
AddsNothing form.Json old new = (message : List ℕ) × (new ≡ old ++ line_of (nothing_object message))

-- the object of a prefix, as a line, with the pattern that matches all names with this prefix
abbrev pub asked_object : List ℕ → List ℕ
asked_object prefix = line_of (prefix_object (json_text prefix) (json_text (request notation.Pattern prefix)))

-- the results grew by prefixes, in order
abbrev pub AddsRequests : Notation → Form → List (List ℕ) → List ℕ → List ℕ → Type 0
AddsRequests n form.Json list old new = new ≡ old ++ flat_map asked_object list
AddsRequests n form.Lines list old new = AddsNames form.Lines (argument n) (map (request n) list) old new
AddsRequests n form.Zeros list old new = AddsNames form.Zeros (argument n) (map (request n) list) old new

-- the results grew by what stands for all refs, as there are too many prefixes: in JSON by an object with a sentence
abbrev pub AddsTooMany : Notation → Form → List ℕ → List ℕ → Type 0
AddsTooMany n form.Lines old new = new ≡ old ++ all_line n
AddsTooMany n form.Zeros old new = new ≡ old ++ all_field n
AddsTooMany n form.Json old new = (message : List ℕ) × (new ≡ old ++ line_of (all_object message))

-- the results grew by the report that all refs must be requested, for these specs or, without any, for all together
abbrev pub AddsWhole : Notation → Form → List Reading → List ℕ → List ℕ → Type 0
AddsWhole n form [] old new = AddsTooMany n form old new
AddsWhole n form (r ∷ g) old new = AddsAll n form (r ∷ g) old new

-- the spec is positive, and the star of its side on the remote is right after `refs/`: Git requests `refs/` for it
-- (git-fetch(1), protocol v2)
abbrev pub TakesWhole : Reading → Type 0
TakesWhole r = IsPositive r.mode × ((after : List ℕ) × (remote_of r ≡ Some (codes "refs/*" ++ after)))

-- the other specs, in order
abbrev pub AreOthers : List Reading → List Reading → Type 0
AreOthers [] others = others ≡ []
AreOthers (r ∷ g) others =
    (TakesWhole r × AreOthers g others)
    ⊎ ((¬ (TakesWhole r)) × ((rest : List Reading) × AreOthers g rest × (others ≡ r ∷ rest)))

-- what is requested beside the prefixes of the other specs: `refs/` if not all specs are among these
abbrev pub IsWhole : List Reading → List Reading → List (List ℕ) → Type 0
IsWhole g others whole = ((others ≢ g) × (whole ≡ codes "refs/" ∷ [])) ⊎ ((others ≡ g) × (whole ≡ []))

-- the spec alone has no list that can be sent
abbrev pub IsReason : Reading → Type 0
IsReason r = Requests (r ∷ []) requested.All

-- the spec alone has one
abbrev pub CanBeListed : Reading → Type 0
CanBeListed r = (asked : RefPrefixes) × Requests (r ∷ []) asked × (asked ≢ requested.All)

-- the specs without a list that can be sent, in order; each other has one
abbrev pub AreReasons : List Reading → List Reading → Type 0
AreReasons [] reasons = reasons ≡ []
AreReasons (r ∷ g) reasons =
    (IsReason r × ((rest : List Reading) × AreReasons g rest × (reasons ≡ r ∷ rest)))
    ⊎ (CanBeListed r × AreReasons g reasons)

-- the answer is what is requested for specs beside some ref prefixes; and if that is all refs, it has the reasons
abbrev pub AnswersFor : List (List ℕ) → List Reading → Answer → Type 0
AnswersFor beside others answer.Nothing = RequestsBeside beside others requested.Nothing
AnswersFor beside others (answer.Listed list) = RequestsBeside beside others (requested.Listed list)
AnswersFor beside others (answer.All reasons) =
    RequestsBeside beside others requested.All × AreReasons others (map reading_of reasons.items)

-- the answer for specs with these readings, beside some ref prefixes
pub record IsAnswer (beside : List (List ℕ)) (g : List Reading) (a : Answer) : Type 0 where
  pub others : List Reading
  pub are : AreOthers g others
  pub whole : List (List ℕ)
  pub is_whole : IsWhole g others whole
  pub answers : AnswersFor (beside ++ whole) others a

-- the ref prefixes by which a ref with this name is asked for: `HEAD`, or a full name, is asked for by itself, as Git
-- does; a partial name by its candidates, since it may be any of these; and no server has a ref with an invalid name
abbrev pub AsksByName : List ℕ → List (List ℕ) → Type 0
AsksByName n list =
    (IsRefName n × (list ≡ n ∷ []))
    ⊎ ((¬ (IsRefName n)) × ((IsName n × (list ≡ candidates n)) ⊎ ((¬ (IsName n)) × (list ≡ []))))

-- those of some names, in order
abbrev pub AreNamed : List (List ℕ) → List (List ℕ) → Type 0
AreNamed names list = IsJoinedFrom (λ k n own. AsksByName n own) 0 names list

-- what is requested beside the specs: the refs with some names, and then all tags, if these are asked for; Git follows
-- the tags of what it fetches
abbrev pub AreBeside : (names : List (List ℕ)) (tags : Bool) (list : List (List ℕ)) → Type 0
AreBeside names tags list =
    (named : List (List ℕ)) × AreNamed names named × (list ≡ named ++ cond tags (codes "refs/tags/" ∷ []) [])

-- the results grew by an answer
abbrev pub AddsAnswer : Notation → Answer → Form → List ℕ → List ℕ → Type 0
AddsAnswer n answer.Nothing form old new = AddsNothing form old new
AddsAnswer n (answer.Listed list) form old new = AddsRequests n form (map bstring_bytes list.items) old new
AddsAnswer n (answer.All reasons) form old new = AddsWhole n form (map reading_of reasons.items) old new

-- the results grew by the answer for specs with these readings, beside some ref prefixes
abbrev pub AddsPrefixes : List (List ℕ) → Notation → Form → List Reading → List ℕ → List ℕ → Type 0
AddsPrefixes beside n form g old new = (found : Answer) × IsAnswer beside g found × AddsAnswer n found form old new

-- the same beside what is requested by names and for tags
abbrev pub AddsBeside : (names : List (List ℕ)) (tags : Bool) → Notation → Form → List Reading → List ℕ → List ℕ
    → Type 0
AddsBeside names tags n form g old new =
    (beside : List (List ℕ)) × AreBeside names tags beside × AddsPrefixes beside n form g old new
