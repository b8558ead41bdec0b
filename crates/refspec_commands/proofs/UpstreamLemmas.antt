-- The report on upstreams.
use Rattle.std.proofs.Common.{◌≡◌, ◌⊎◌, ℕ, ltb, List, [], ◌++◌, None, Some, Option, option_map, MatchBool, inl, inr}
use Rattle.std.proofs.Common.{refl, sym, ap, ◌∙◌, subst}
use Rattle.std.proofs.lemmas.List.{append-nil}
use Rattle.std.specs.List.{All, Any}
use Rattle.bstr.specs.Owned.{bstring_bytes}
use Rattle.gix_refspec_remote.specs.Upstream.{Upstream, tracked}
use Rattle.gix_refspec_remote.specs.Views.{shown}
use Rattle.refspec_json.specs.Objects.{line_of, no_upstream_object, upstream_object}
use Rattle.refspec_io.specs.declared.call.Form.{Form}
use Rattle.refspec_io.specs.declared.call.Form.TheVariants as form
use Rattle.refspec_io.specs.Json.{json_text}
use Rattle.refspec_io.specs.Rows.{WritesCell, WritesLine, fields}
use Rattle.refspec_io.specs.Shown.{zero_ended}
use Rattle.refspec_io.proofs.ShownLemmas.{behind}
use Rattle.refspec_commands.specs.declared.upstreams.advice.Lack.{Lack}
use Rattle.refspec_commands.specs.declared.upstreams.answer.Found.{Found}
use Rattle.refspec_commands.specs.declared.upstreams.question.Setup.{Setup}
use Rattle.refspec_commands.specs.Each.{AddsOne}
use Rattle.refspec_commands.specs.Upstreams.{FindsUpstream, IsLineBehind, IsOther, IsReport, IsReported, IsRow}
use Rattle.refspec_commands.specs.Upstreams.{IsStatus, Tracking, branch_field, object_of, row_of}
use Rattle.refspec_commands.specs.UpstreamViews.{IsLackOf, IsOtherOf}

-- the row of a branch without a name
pub alone_line : (t : Tracking) (old new : List ℕ) → t.branch ≡ None → WritesLine (row_of t) old new
    → AddsOne (IsRow form.Lines) t old new
alone_line t old new none write =
    (write.0, subst (λ (o : Option (List ℕ)). IsLineBehind o (row_of t) write.0) (sym none) write.1, write.2)

pub alone_fields : (t : Tracking) (old new : List ℕ) → t.branch ≡ None → new ≡ old ++ fields (row_of t)
    → AddsOne (IsRow form.Zeros) t old new
alone_fields t old new none write =
    let all = fields (row_of t) in
    (all, subst (λ (o : Option (List ℕ)). all ≡ branch_field o ++ all) (sym none) refl, write)

-- the row of a branch with a name
pub named_line : (t : Tracking) (branch old mid new : List ℕ) → t.branch ≡ Some branch → WritesCell branch old mid
    → WritesLine (row_of t) mid new → AddsOne (IsRow form.Lines) t old new
named_line t branch old mid new some cell write =
    let all = cell.0 ++ write.0 in (
      all,
      subst (λ (o : Option (List ℕ)). IsLineBehind o (row_of t) all) (sym some)
          (cell.0, write.0, cell.1, write.1, refl),
      behind old cell.0 mid write.0 new cell.2 write.2,
    )

pub named_fields : (t : Tracking) (branch old mid new : List ℕ) → t.branch ≡ Some branch
    → mid ≡ old ++ zero_ended branch → new ≡ mid ++ fields (row_of t) → AddsOne (IsRow form.Zeros) t old new
named_fields t branch old mid new some first write =
    let rest = fields (row_of t) in
    let all = zero_ended branch ++ rest in (
      all,
      subst (λ (o : Option (List ℕ)). all ≡ branch_field o ++ rest) (sym some) refl,
      behind old (zero_ended branch) mid rest new first write,
    )

-- the object of an upstream, member by member
pub object-of : (t : Tracking) (branch : Option (List ℕ)) (merge name : List ℕ) (spec : Option (List ℕ))
    (old new : List ℕ) → branch ≡ option_map json_text t.branch → merge ≡ json_text t.merged → name ≡ json_text t.name
    → spec ≡ option_map json_text t.text → new ≡ old ++ line_of (upstream_object branch merge name spec)
    → AddsOne (IsRow form.Json) t old new
object-of t branch merge name spec old new is_branch is_merge is_name is_spec write = (
  object_of t,
  refl,
  write ∙ (ap (λ x. old ++ line_of (upstream_object x merge name spec)) is_branch
      ∙ (ap (λ x. old ++ line_of (upstream_object (option_map json_text t.branch) x name spec)) is_merge
      ∙ (ap (λ x. old ++ line_of (upstream_object (option_map json_text t.branch) (json_text t.merged) x spec)) is_name
      ∙ ap (λ x. old ++ line_of (upstream_object (option_map json_text t.branch) (json_text t.merged)
      (json_text t.name) x)) is_spec))),
)

-- the object of a branch without one
pub lack_object-of : (l : Lack) (branch spec : Option (List ℕ)) (merge message advice old new : List ℕ)
    → branch ≡ option_map json_text (option_map (λ n. n.now) l.merged.now.branch)
    → merge ≡ json_text l.merged.now.name.now
    → spec ≡ option_map json_text (option_map (λ n. n.now) l.spec)
    → new ≡ old ++ line_of (no_upstream_object branch merge spec message advice)
    → AddsOne (IsLackOf form.Json) l old new
lack_object-of l branch spec merge message advice old new is_branch is_merge is_spec write =
    let b = option_map json_text (option_map (λ n. n.now) l.merged.now.branch) in
    let n = json_text l.merged.now.name.now in
    let s = option_map json_text (option_map (λ n. n.now) l.spec) in (
      line_of (no_upstream_object b n s message advice),
      (message, advice, refl),
      write ∙ (ap (λ x. old ++ line_of (no_upstream_object x merge spec message advice)) is_branch
          ∙ (ap (λ x. old ++ line_of (no_upstream_object b x spec message advice)) is_merge
          ∙ ap (λ x. old ++ line_of (no_upstream_object b n x message advice)) is_spec)),
    )

-- in another form nothing is appended
pub lack_unsaid : (f : Form) (l : Lack) (old : List ℕ) → (f ≡ form.Lines) ⊎ (f ≡ form.Zeros)
    → AddsOne (IsLackOf f) l old old
lack_unsaid f l old (inl is) =
    subst (λ (g : Form). AddsOne (IsLackOf g) l old old) (sym is) ([], refl, sym (append-nil old))
lack_unsaid f l old (inr is) =
    subst (λ (g : Form). AddsOne (IsLackOf g) l old old) (sym is) ([], refl, sym (append-nil old))

-- what was found, reported as a row
pub found_row : (f : Form) (x : Found) (name : List ℕ) (k : ℕ) (t : Tracking) (old new : List ℕ)
    → shown x.upstream ≡ tracked name k → t ≡ record {
      branch = option_map (λ n. n.now) x.merged.branch;
      name = name;
      merged = x.merged.name.now;
      text = Some (bstring_bytes x.text);
    } → AddsOne (IsRow f) t old new → AddsOne (IsReported f) x old new
found_row f x name k t old new is same (line, row, write) =
    let branch = option_map (λ n. n.now) x.merged.branch in (
      line,
      subst (λ (u : Upstream). IsReport f x.merged.setup branch x.merged.name.now u (bstring_bytes x.text) line)
          (sym is)
          (subst (λ (t : Tracking). IsRow f t line) same row),
      write,
    )

-- what was found, reported as where no spec stores the merged ref
pub found_other : (f : Form) (x : Found) (u : Upstream) (spec said : Option (List ℕ)) (old new line : List ℕ)
    → shown x.upstream ≡ u → spec ≡ said
    → (IsOther f x.merged.setup (option_map (λ n. n.now) x.merged.branch) x.merged.name.now said line
    → IsReport f x.merged.setup (option_map (λ n. n.now) x.merged.branch) x.merged.name.now u (bstring_bytes x.text)
    line)
    → IsOther f x.merged.setup (option_map (λ n. n.now) x.merged.branch) x.merged.name.now spec line
    → new ≡ old ++ line → AddsOne (IsReported f) x old new
found_other f x u spec said old new line is same gives other write =
    let branch = option_map (λ n. n.now) x.merged.branch in
    let s = x.merged.setup in (
      line,
      subst (λ (v : Upstream). IsReport f s branch x.merged.name.now v (bstring_bytes x.text) line) (sym is)
          (gives (subst (λ (o : Option (List ℕ)). IsOther f s branch x.merged.name.now o line) same other)),
      write,
    )

-- the row of a merged ref of this repository
pub other_row : (f : Form) (l : Lack) (s : Setup) (t : Tracking) (old new : List ℕ) → l.merged.now.setup ≡ s
    → ((line : List ℕ) → IsRow f t line → IsOther f s (option_map (λ n. n.now) l.merged.now.branch)
    l.merged.now.name.now
    (option_map (λ n. n.now) l.spec) line) → AddsOne (IsRow f) t old new → AddsOne (IsOtherOf f) l old new
other_row f l s t old new is gives (line, row, write) =
    let branch = option_map (λ n. n.now) l.merged.now.branch in
    let spec = option_map (λ n. n.now) l.spec in (
      line,
      subst (λ (v : Setup). IsOther f v branch l.merged.now.name.now spec line) (sym is) (gives line row),
      write,
    )

-- the lack of one that is merged from a remote, or from nowhere
pub other_lack : (f : Form) (l : Lack) (s : Setup) (old new : List ℕ) → l.merged.now.setup ≡ s
    → ((line : List ℕ) → IsLackOf f l line → IsOther f s (option_map (λ n. n.now) l.merged.now.branch)
    l.merged.now.name.now (option_map (λ n. n.now) l.spec) line) → AddsOne (IsLackOf f) l old new
    → AddsOne (IsOtherOf f) l old new
other_lack f l s old new is gives (line, lack, write) =
    let branch = option_map (λ n. n.now) l.merged.now.branch in
    let spec = option_map (λ n. n.now) l.spec in (
      line,
      subst (λ (v : Setup). IsOther f v branch l.merged.now.name.now spec line) (sym is) (gives line lack),
      write,
    )

-- the status is 1 exactly if some branch has no upstream
pub refused-of : (found : List Found) (status : ℕ) → IsStatus found status
    → MatchBool (ltb 0 status) (Any (λ x. ¬ (FindsUpstream x)) found) (All FindsUpstream found)
refused-of found status (inl (none, all)) = rw none all
refused-of found status (inr (one, some)) = rw one some

-- rows with the same parts
abbrev pub tracking : Option (List ℕ) → (name merged : List ℕ) → Option (List ℕ) → Tracking
tracking branch name merged text = record { branch = branch; name = name; merged = merged; text = text }

pub tracking_same : (branch : Option (List ℕ)) (merged name name2 : List ℕ) (text text2 : Option (List ℕ))
    → name ≡ name2 → text ≡ text2
    → tracking branch name merged text ≡ tracking branch name2 merged text2
tracking_same branch merged name name2 text text2 one other =
    ap (λ n. tracking branch n merged text) one ∙ ap (λ t. tracking branch name2 merged t) other
