-- The answer to a question of `upstream`, in the terms of the library, and its report: which ref Git takes for the
-- upstream of a branch, or why there is none.
use Rattle.std.specs.Prelude.{◌≡◌, ◌⊎◌, ℕ, Bool, List, [], ◌++◌, Option, None, Some, MatchBool, map, option_map}
use Rattle.std.specs.Prelude.{unwrap_or, ⊤}
use Rattle.std.specs.List.{All, AllZip, Any, slice_get}
use Rattle.bstr.specs.Owned.{bstring_bytes}
use Rattle.gix_refspec.specs.Specs.Meaning.{printed}
use Rattle.gix_refspec.specs.Specs.Reading.{Reading}
use Rattle.gix_refspec.specs.Views.Spec.{reading_of}
use Rattle.gix_refspec_remote.specs.Upstream.{Upstream, tracked, excluded, not_stored, not_fetched, IsUpstream}
use Rattle.gix_refspec_remote.specs.Views.{shown}
use Rattle.refspec_json.specs.Objects.{line_of, no_upstream_object, upstream_object}
use Rattle.refspec_io.specs.declared.call.Form.{Form}
use Rattle.refspec_io.specs.declared.call.Form.TheVariants as form
use Rattle.refspec_io.specs.Json.{json_text}
use Rattle.refspec_io.specs.Rows.{IsCell, IsLine, Row, fields}
use Rattle.refspec_io.specs.Shown.{zero_ended}
use Rattle.refspec_commands.specs.declared.upstreams.answer.Found.{Found}
use Rattle.refspec_commands.specs.declared.upstreams.question.Merged.{Merged}
use Rattle.refspec_commands.specs.declared.upstreams.question.Setup.{Setup}
use Rattle.refspec_commands.specs.declared.upstreams.question.Setup.TheVariants as setup
use Rattle.refspec_commands.specs.Each.{AddsEach}

-- ---- the answer

-- the index of the spec that an upstream, or its lack, is due to
abbrev pub spec_named : Upstream → Option ℕ
spec_named (tracked name k) = Some k
spec_named (excluded k by) = Some by
spec_named (not_stored k) = Some k
spec_named not_fetched = None

-- the canonical text of the spec at an index; empty without one
abbrev pub IsTextAt : List Reading → Option ℕ → List ℕ → Type 0
IsTextAt g None text = text ≡ []
IsTextAt g (Some k) text = (r : Reading) → slice_get g k ≡ Some r → printed r ≡ Some text

-- what was found for a merged ref: the upstream that the specs of its remote give, and the text of the spec
pub record IsFound (m : Merged) (f : Found) : Type 0 where
  pub asked : f.merged ≡ m
  pub upstream : IsUpstream (map reading_of m.specs.now) m.name.now (shown f.upstream)
  pub text : IsTextAt (map reading_of m.specs.now) (spec_named (shown f.upstream)) (bstring_bytes f.text)

-- a branch merges from this repository
abbrev pub IsHere : Setup → Type 0
IsHere (setup.Here name) = ⊤
IsHere _ = ⊥

-- there is an upstream: a spec stores the merged ref, or else the branch merges it from this repository
abbrev pub HasUpstream : Setup → Upstream → Type 0
HasUpstream s (tracked name k) = ⊤
HasUpstream s (excluded k by) = IsHere s
HasUpstream s (not_stored k) = IsHere s
HasUpstream s not_fetched = IsHere s

-- the same of what was found
abbrev pub FindsUpstream : Found → Type 0
FindsUpstream f = HasUpstream f.merged.setup (shown f.upstream)

-- the exit status: 0 if each branch has an upstream, else 1
abbrev pub IsStatus : List Found → ℕ → Type 0
IsStatus found status =
    ((status ≡ 0) × All FindsUpstream found) ⊎ ((status ≡ 1) × Any (λ f. ¬ (FindsUpstream f)) found)

-- ---- the report

-- what a row shows: the branch, if it has a name, the upstream, the ref that is merged, and the text of the spec that
-- stores it, if one does
pub record Tracking : Type 0 where
  pub branch : Option (List ℕ)
  pub name : List ℕ
  pub merged : List ℕ
  pub text : Option (List ℕ)

-- the last three as a row; without a spec its text is empty
abbrev pub row_of : Tracking → Row
row_of t = record { destination = t.name; source = t.merged; spec = unwrap_or t.text [] }

-- a line: cells of the upstream and of the merged ref, and the text of the spec, behind a cell of the branch
abbrev pub IsLineBehind : Option (List ℕ) → Row → List ℕ → Type 0
IsLineBehind None row line = IsLine row line
IsLineBehind (Some branch) row line = (cell : List ℕ) × (rest : List ℕ) × IsCell branch cell × IsLine row rest
    × (line ≡ cell ++ rest)

-- the field of the branch, ended by a zero byte
abbrev pub branch_field : Option (List ℕ) → List ℕ
branch_field None = []
branch_field (Some branch) = zero_ended branch

-- the object of an upstream, as a line
abbrev pub object_of : Tracking → List ℕ
object_of t = line_of (upstream_object (option_map json_text t.branch) (json_text t.merged) (json_text t.name)
    (option_map json_text t.text))

-- the results have a row for an upstream
abbrev pub IsRow : Form → Tracking → List ℕ → Type 0
IsRow form.Lines t line = IsLineBehind t.branch (row_of t) line
IsRow form.Zeros t line = line ≡ branch_field t.branch ++ fields (row_of t)
IsRow form.Json t line = line ≡ object_of t

-- and nothing where there is none; in JSON an object with the text of the spec that is the reason, if one is
abbrev pub IsLack : Form → (branch : Option (List ℕ)) → (merged : List ℕ) → (spec : Option (List ℕ)) → List ℕ → Type 0
IsLack form.Json branch merged spec line = (message : List ℕ) × (advice : List ℕ)
    × (line ≡ line_of (no_upstream_object (option_map json_text branch) (json_text merged) (option_map json_text spec)
    message advice))
IsLack _ branch merged spec line = line ≡ []

-- what they have where no spec stores the merged ref: a row of the ref itself, if it is one of this repository
abbrev pub IsOther : Form → Setup → (branch : Option (List ℕ)) → (merged : List ℕ) → (spec : Option (List ℕ)) → List ℕ
    → Type 0
IsOther f (setup.Here name) branch merged spec line =
    IsRow f (record { branch = branch; name = name.now; merged = merged; text = None }) line
IsOther f _ branch merged spec line = IsLack f branch merged spec line

-- what the results have for a merged ref of a branch, with this upstream and this text of its spec
abbrev pub IsReport : Form → Setup → (branch : Option (List ℕ)) → (merged : List ℕ) → Upstream → (text : List ℕ)
    → List ℕ → Type 0
IsReport f s branch merged (tracked name k) text line =
    IsRow f (record { branch = branch; name = name; merged = merged; text = Some text }) line
IsReport f s branch merged (excluded k by) text line = IsOther f s branch merged (Some text) line
IsReport f s branch merged (not_stored k) text line = IsOther f s branch merged (Some text) line
IsReport f s branch merged not_fetched text line = IsOther f s branch merged None line

-- the same of what was found
abbrev pub IsReported : Form → Found → List ℕ → Type 0
IsReported f x line = IsReport f x.merged.setup (option_map (λ n. n.now) x.merged.branch) x.merged.name.now
    (shown x.upstream) (bstring_bytes x.text) line

-- the results grew by an answer
abbrev pub AddsAnswer : Form → List Found → List ℕ → List ℕ → Type 0
AddsAnswer f found old new = AddsEach (IsReported f) found old new

-- ---- `refspec upstream`

-- what is asked for a ref that is merged from a remote: neither its branch nor the remote has a name, and the specs
-- have
-- these readings
pub record IsAsked (g : List Reading) (n : List ℕ) (m : Merged) : Type 0 where
  pub branch : m.branch ≡ None
  pub remote : m.remote ≡ None
  pub specs : map reading_of m.specs.now ≡ g
  pub name : m.name.now ≡ n
  pub setup : m.setup ≡ setup.Remote

-- the results grew by the upstreams of branches that merge refs of these names, by specs with these readings; something
-- is refused if a branch has none
pub record AddsUpstreams (f : Form) (names : List (List ℕ)) (refused : Bool) (g : List Reading) (old new : List ℕ) :
    Type 0 where
  pub merged : List Merged
  pub found : List Found
  pub asked : AllZip (IsAsked g) names merged
  pub answered : AllZip IsFound merged found
  pub reported : AddsAnswer f found old new
  pub status : MatchBool refused (Any (λ x. ¬ (FindsUpstream x)) found) (All FindsUpstream found)
