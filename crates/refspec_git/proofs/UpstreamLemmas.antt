-- The specs of remotes, setting by setting, and the answer on upstreams.
use Rattle.std.proofs.Common.{◌≡◌, ◌∙◌, ◌++◌, ◌∷◌, [], ℕ, Bool, Bor, List, MatchOption, None, Option, Some, true, false}
use Rattle.std.proofs.Common.{ap, append-nil, codes, cond, map, option_map, refl, subst, sym, unwrap_or}
use Rattle.std.proofs.lemmas.Bool.{false≢true}
use Rattle.std.proofs.lemmas.List.Elements.{filter-append}
use Rattle.std.proofs.lemmas.Map.Text.{btree_map_updates_str}
use Rattle.std.proofs.lemmas.Slice.Eq.{bytes_eq-Decides}
use Rattle.std.specs.BTreeMap.{BTreeMap, UpdatesBy, get_by}
use Rattle.std.specs.Cmp.Lexicographic.{slice_cmp}
use Rattle.std.specs.Global.{Vec}
use Rattle.std.specs.List.{AllZip}
use Rattle.std.specs.Ordering.{nat_cmp}
use Rattle.std.specs.Str.{bytes_eq}
use Rattle.gix_refspec.specs.Specs.Reading.{Reading}
use Rattle.gix_refspec.specs.Views.Spec.{reading_of}
use Rattle.gix_refspec_text.proofs.readers.Texts.{Lacks-tested}
use Rattle.gix_refspec_text.specs.declared.spec.RefSpecRef.{RefSpecRef}
use Rattle.refspec_commands.specs.Upstreams.{AddsAnswer, IsFound, IsStatus}
use Rattle.refspec_commands.specs.declared.upstreams.answer.Found.{Found}
use Rattle.refspec_commands.specs.declared.upstreams.question.Merged.{Merged}
use Rattle.refspec_io.specs.declared.call.Form.{Form}
use Rattle.refspec_io.specs.declared.report.Report.{Report}
use Rattle.refspec_io.specs.declared.settings.Setting.{Setting}
use Rattle.refspec_request.specs.Settings.{has_key, joined_key}
use Rattle.refspec_request.specs.declared.arguments.Request.{Request}
use Rattle.refspec_request.specs.declared.choice.Repository.{Repository}
use Rattle.refspec_request.proofs.SettingLemmas.{false_unless, key_once}
use Rattle.refspec_git.specs.declared.answer.Answer.{Answer}
use Rattle.refspec_git.specs.declared.answer.Answer.TheVariants as answer
use Rattle.refspec_git.specs.declared.branches.Branch.{Branch}
use Rattle.refspec_git.specs.Answers.{IsReport}
use Rattle.refspec_git.specs.Branches.{AreBranches}
use Rattle.refspec_git.specs.Tracking.{AddsSpec, AreSpecsIn, values_of}
use Rattle.refspec_git.specs.Upstreams.{AnswersUpstream, AreSpecsBy, IsFetchValue, IsMergedBy, values_for}
use Rattle.refspec_git.proofs.TrackingLemmas.{AreSpecsIn-more}

-- the key of the fetch values of a remote
abbrev fetch_key : List ℕ → List ℕ
fetch_key name = joined_key (codes "remote") name (codes "fetch")

-- what specs have at a name
abbrev pub specs_at : BTreeMap (Bor (List ℕ)) (Vec RefSpecRef) → List ℕ → Option (Vec RefSpecRef)
specs_at specs name = get_by (λ k. slice_cmp nat_cmp name k.now) specs

abbrev pub IsSpecsAt : List Setting → Option (Vec RefSpecRef) → Type 0
IsSpecsAt values found = MatchOption found (values ≡ []) (λ own. AreSpecsIn values (map reading_of own.items))

-- a setting with the key is a fetch value
fetched : (name : List ℕ) (s : Setting) → has_key (fetch_key name) s ≡ true → IsFetchValue name s
fetched name s is =
    record { parts = (bytes_eq-Decides s.key.now (fetch_key name)).0 is; last = Lacks-tested 46 (codes "fetch") refl }

-- a setting more that is no fetch value of a remote
kept : (seen : List Setting) (s : Setting) (name : List ℕ) → ¬ (IsFetchValue name s)
    → values_of (seen ++ s ∷ []) name ≡ values_of seen name
kept seen s name other =
    filter-append (has_key (fetch_key name)) seen (s ∷ [])
    ∙ (ap (λ b. values_of seen name ++ cond b (s ∷ []) []) (sym (false_unless _ (λ is. other (fetched name s is))))
    ∙ append-nil (values_of seen name))

-- and one that is
grown : (seen : List Setting) (s : Setting) (name : List ℕ) → IsFetchValue name s
    → values_of (seen ++ s ∷ []) name ≡ values_of seen name ++ s ∷ []
grown seen s name is =
    filter-append (has_key (fetch_key name)) seen (s ∷ [])
    ∙ ap (λ b. values_of seen name ++ cond b (s ∷ []) []) ((bytes_eq-Decides s.key.now (fetch_key name)).1 is.parts)

-- a setting more that is no fetch value
pub specs_same : (seen : List Setting) (s : Setting) (specs : BTreeMap (Bor (List ℕ)) (Vec RefSpecRef))
    → ((name : List ℕ) → ¬ (IsFetchValue name s)) → AreSpecsBy seen specs → AreSpecsBy (seen ++ s ∷ []) specs
specs_same seen s specs other are name =
    subst (λ (l : List Setting). IsSpecsAt l (specs_at specs name)) (sym (kept seen s name (other name))) (are name)

-- the specs that are taken out are those so far
pub taken_specs : (seen : List Setting) (old : BTreeMap (Bor (List ℕ)) (Vec RefSpecRef)) (name : List ℕ)
    (empty own : Vec RefSpecRef) (found : Option (Vec RefSpecRef)) → AreSpecsBy seen old → found ≡ specs_at old name
    → empty.items ≡ [] → own ≡ unwrap_or found empty → AreSpecsIn (values_of seen name) (map reading_of own.items)
taken_specs seen old name empty own found are is none same =
    by found same (subst (IsSpecsAt (values_of seen name)) (sym is) (are name))
  where
    by : (f : Option (Vec RefSpecRef)) → own ≡ unwrap_or f empty → IsSpecsAt (values_of seen name) f
        → AreSpecsIn (values_of seen name) (map reading_of own.items)
    by None same bare = subst (λ (l : List Setting). AreSpecsIn l (map reading_of own.items)) (sym bare)
        (ap (λ (v : Vec RefSpecRef). map reading_of v.items) same ∙ ap (map reading_of) none)
    by (Some v) same here =
        subst (λ (w : Vec RefSpecRef). AreSpecsIn (values_of seen name) (map reading_of w.items)) (sym same) here

-- with the spec of a fetch value more
pub with_spec : (seen : List Setting) (s : Setting) (name : List ℕ) (old new : List Reading) → IsFetchValue name s
    → AreSpecsIn (values_of seen name) old → AddsSpec s old new → AreSpecsIn (values_of (seen ++ s ∷ []) name) new
with_spec seen s name old new is so_far adds =
    subst (λ (l : List Setting). AreSpecsIn l new) (sym (grown seen s name is))
    (AreSpecsIn-more (values_of seen name) s old new adds so_far)

-- a fetch value more of a remote: its specs are taken out, and put back
pub specs_more : (seen : List Setting) (s : Setting) (e : Bor (List ℕ))
    (old mid new : BTreeMap (Bor (List ℕ)) (Vec RefSpecRef)) (own : Vec RefSpecRef) → IsFetchValue e.now s
    → AreSpecsBy seen old
    → UpdatesBy (λ x y. slice_cmp nat_cmp x.now y.now) (λ k. slice_cmp nat_cmp e.now k.now) old mid None
    → UpdatesBy (λ x y. slice_cmp nat_cmp x.now y.now) (λ k. slice_cmp nat_cmp e.now k.now) mid new (Some own)
    → AreSpecsIn (values_of (seen ++ s ∷ []) e.now) (map reading_of own.items) → AreSpecsBy (seen ++ s ∷ []) new
specs_more seen s e old mid new own is are taken put specs q = by (bytes_eq e.now q) refl
  where
    looked : specs_at new q ≡ cond (bytes_eq e.now q) (Some own) (cond (bytes_eq e.now q) None (specs_at old q))
    looked = btree_map_updates_str e.now mid new (Some own) put q
        ∙ ap (λ (o : Option (Vec RefSpecRef)). cond (bytes_eq e.now q) (Some own) o)
        (btree_map_updates_str e.now old mid None taken q)

    by : (b : Bool) → bytes_eq e.now q ≡ b → IsSpecsAt (values_of (seen ++ s ∷ []) q) (specs_at new q)
    by true same =
        let here : e.now ≡ q = (bytes_eq-Decides e.now q).0 same in
        subst (IsSpecsAt (values_of (seen ++ s ∷ []) q)) (sym (looked
        ∙ ap (λ (b : Bool). cond b (Some own) (cond b None (specs_at old q))) same))
        (subst (λ (n : List ℕ). AreSpecsIn (values_of (seen ++ s ∷ []) n) (map reading_of own.items)) here specs)
    by false other =
        let no : ¬ (IsFetchValue q s) = λ key. false≢true (sym other ∙ (bytes_eq-Decides e.now q).1
        (key_once (codes "remote") s.key.now e.now (codes "fetch") q (codes "fetch") is key).0) in
        subst (IsSpecsAt (values_of (seen ++ s ∷ []) q)) (sym (looked
        ∙ ap (λ (b : Bool). cond b (Some own) (cond b None (specs_at old q))) other))
        (subst (λ (l : List Setting). IsSpecsAt l (specs_at old q)) (sym (kept seen s q no)) (are q))

-- a report that began empty has what was found alone
pub from_empty : (found : List Found) (f : Form) (start : Report) (new : List ℕ) → start.form ≡ f
    → start.results.items ≡ [] → AddsAnswer start.form found start.results.items new → AddsAnswer f found [] new
from_empty found f start new form empty adds =
    subst (λ (l : List ℕ). AddsAnswer f found l new) empty
    (subst (λ (g : Form). AddsAnswer g found start.results.items new) form adds)

-- the specs for a remote; none without one
pub for_none : (settings : List Setting) (remote : Option (Bor (List ℕ))) → remote ≡ None
    → AreSpecsIn (values_for settings (option_map (λ n. n.now) remote)) []
for_none settings remote is =
    subst (λ (o : Option (Bor (List ℕ))). AreSpecsIn (values_for settings (option_map (λ n. n.now) o)) []) (sym is) refl

pub for_some : (settings : List Setting) (remote : Option (Bor (List ℕ))) (name : Bor (List ℕ)) (g : List Reading)
    → remote ≡ Some name → AreSpecsIn (values_of settings name.now) g
    → AreSpecsIn (values_for settings (option_map (λ n. n.now) remote)) g
for_some settings remote name g is are =
    subst (λ (o : Option (Bor (List ℕ))). AreSpecsIn (values_for settings (option_map (λ n. n.now) o)) g) (sym is) are

-- the specs that are found at a name
pub specs_found : (settings : List Setting) (specs : BTreeMap (Bor (List ℕ)) (Vec RefSpecRef)) (name : List ℕ)
    (found : Option (Vec RefSpecRef)) (own : List RefSpecRef) → AreSpecsBy settings specs
    → found ≡ specs_at specs name → own ≡ unwrap_or (option_map (λ v. v.items) found) []
    → AreSpecsIn (values_of settings name) (map reading_of own)
specs_found settings specs name found own are looked same =
    subst (λ (l : List RefSpecRef). AreSpecsIn (values_of settings name) (map reading_of l)) (sym same)
    (by found (subst (IsSpecsAt (values_of settings name)) (sym looked) (are name)))
  where
    by : (f : Option (Vec RefSpecRef)) → IsSpecsAt (values_of settings name) f
        → AreSpecsIn (values_of settings name) (map reading_of (unwrap_or (option_map (λ v. v.items) f) []))
    by None bare = subst (λ (l : List Setting). AreSpecsIn l []) (sym bare) refl
    by (Some v) have = have

-- the answer is the report on what was found
pub answers_upstream : (r : Repository) (request : Request) (branches : List Branch) (merged : List Merged)
    (found : List Found) (report : Report) (status : ℕ) (a : Answer) → AreBranches r request branches
    → AllZip (IsMergedBy r.settings.now) branches merged → AllZip IsFound merged found
    → AddsAnswer request.form found [] report.results.items → IsStatus found status → IsReport report status a
    → AnswersUpstream r request a
answers_upstream r request branches merged found report status (answer.Asks lines) are asked answered reported is none =
    absurd none
answers_upstream r request branches merged found report status (answer.Reports output) are asked answered reported is
    (results, messages, ended) = (
      branches,
      merged,
      found,
      are,
      asked,
      answered,
      subst (λ (v : Vec ℕ). AddsAnswer request.form found [] v.items) (sym results) reported,
      subst (IsStatus found) (sym ended) is,
    )
