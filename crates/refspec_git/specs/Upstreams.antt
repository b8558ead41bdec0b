-- What `git refspec upstream` asks and reports: what branches merge, by the fetch values of their remotes. By
-- git-config(1), branch.<name>.remote, the remote `.` is the repository itself.
use Rattle.std.specs.Prelude.{◌≡◌, ◌≢◌, ◌⊎◌, ℕ, List, [], MatchOption, Option, None, Some, codes, map, option_map}
use Rattle.std.specs.Prelude.{unwrap_or}
use Rattle.std.specs.BTreeMap.{BTreeMap, get_by}
use Rattle.std.specs.Borrow.{Bor}
use Rattle.std.specs.Cmp.Lexicographic.{slice_cmp}
use Rattle.std.specs.Global.{Vec}
use Rattle.std.specs.List.{AllZip}
use Rattle.std.specs.Ordering.{nat_cmp}
use Rattle.gix_refspec.specs.Views.Spec.{reading_of}
use Rattle.gix_refspec_text.specs.declared.spec.RefSpecRef.{RefSpecRef}
use Rattle.refspec_commands.specs.Upstreams.{AddsAnswer, IsFound, IsStatus}
use Rattle.refspec_commands.specs.declared.upstreams.answer.Found.{Found}
use Rattle.refspec_commands.specs.declared.upstreams.question.Merged.{Merged}
use Rattle.refspec_commands.specs.declared.upstreams.question.Setup.{Setup}
use Rattle.refspec_commands.specs.declared.upstreams.question.Setup.TheVariants as setup
use Rattle.refspec_io.specs.declared.settings.Setting.{Setting}
use Rattle.refspec_request.specs.Settings.{IsKey}
use Rattle.refspec_request.specs.declared.arguments.Request.{Request}
use Rattle.refspec_request.specs.declared.choice.Repository.{Repository}
use Rattle.refspec_git.specs.declared.answer.Answer.{Answer}
use Rattle.refspec_git.specs.declared.answer.Answer.TheVariants as answer
use Rattle.refspec_git.specs.declared.branches.Branch.{Branch}
use Rattle.refspec_git.specs.declared.upstreams.Specs.{Specs}
use Rattle.refspec_git.specs.Branches.{AreBranches}
use Rattle.refspec_git.specs.Tracking.{AreSpecsIn, values_of}

-- the setting is a fetch value of the remote
abbrev pub IsFetchValue : List ℕ → Setting → Type 0
IsFetchValue name s = IsKey (codes "remote") name (codes "fetch") s.key.now

-- each remote with fetch values has their specs, but for refused ones, and no other name has any
abbrev pub AreSpecsBy : List Setting → BTreeMap (Bor (List ℕ)) (Vec RefSpecRef) → Type 0
AreSpecsBy settings specs = (name : List ℕ) → MatchOption (get_by (λ k. slice_cmp nat_cmp name k.now) specs)
    (values_of settings name ≡ [])
    (λ own. AreSpecsIn (values_of settings name) (map reading_of own.items))

-- the specs of remotes, and none of any other name
abbrev pub HaveSpecs : List Setting → Specs → Type 0
HaveSpecs settings specs = AreSpecsBy settings specs.by_remote × (specs.none.items ≡ [])

-- the fetch values of a remote; none without one
abbrev pub values_for : List Setting → Option (List ℕ) → List Setting
values_for settings None = []
values_for settings (Some name) = values_of settings name

-- from where a branch merges: nothing without a merge value, then from nowhere without a remote; from `.` this
-- repository, where the merged ref itself is the upstream if no spec stores it
abbrev pub IsSetup : Branch → Setup → Type 0
IsSetup b s = MatchOption b.merge (s ≡ setup.NoMerge) (λ merge. MatchOption b.remote (s ≡ setup.NoRemote)
    (λ remote. ((remote.now ≡ codes ".") × (s ≡ setup.Here merge))
    ⊎ ((remote.now ≢ codes ".") × (s ≡ setup.Remote))))

-- what a branch merges, and the specs of its remote
pub record IsMergedBy (settings : List Setting) (b : Branch) (m : Merged) : Type 0 where
  pub branch : m.branch ≡ Some b.name
  pub remote : m.remote ≡ b.remote
  pub specs : AreSpecsIn (values_for settings (option_map (λ n. n.now) b.remote)) (map reading_of m.specs.now)
  pub name : m.name.now ≡ unwrap_or (option_map (λ n. n.now) b.merge) []
  pub setup : IsSetup b m.setup

-- the answer to a call: the report on the upstreams of its branches, and the exit status
abbrev pub AnswersUpstream : Repository → Request → Answer → Type 0
AnswersUpstream r request (answer.Asks lines) = ⊥
AnswersUpstream r request (answer.Reports output) = (branches : List Branch) × (merged : List Merged)
    × (found : List Found) × AreBranches r request branches × AllZip (IsMergedBy r.settings.now) branches merged
    × AllZip IsFound merged found × AddsAnswer request.form found [] output.results.items
    × IsStatus found output.status
