-- What `git refspec why` reports of a ref.
use Rattle.std.proofs.Common.{◌≡◌, ◌∙◌, ◌⊎◌, ◌≤◌, ◌<◌, ℕ, [], ◌∷◌, ◌++◌, Bool, Bor, Err, IfErr, IfOk, List}
use Rattle.std.proofs.Common.{MatchBool, MatchResult, None, Ok, Option, Result, Some, ap, append-nil, arith, codes}
use Rattle.std.proofs.Common.{cond, drop, false, get_or, inl, inr, length, map, not, refl, subst, sym, take, true}
use Rattle.std.proofs.lemmas.List.{get_or_default, length-append, map-append}
use Rattle.std.proofs.lemmas.List.Elements.{All-map}
use Rattle.std.specs.List.{All}
use Rattle.std.specs.declared.alloc.AllocError.{AllocError}
use Rattle.bstr.specs.Owned.{bstring_bytes}
use Rattle.bstr.specs.declared.bstring.BString.{BString}
use Rattle.gix_refspec.specs.Matching.Match.{Ref}
use Rattle.gix_refspec.specs.Matching.RefNames.{IsRefName}
use Rattle.gix_refspec.specs.Specs.Reading.{Reading}
use Rattle.gix_refspec_match.specs.declared.types.Item.{Item}
use Rattle.gix_refspec.specs.Views.Group.{ref_of}
use Rattle.gix_refspec.specs.Views.Spec.{reading_of}
use Rattle.gix_refspec_plan.specs.declared.Plan.{Plan}
use Rattle.gix_refspec_plan.specs.declared.Update.{Update}
use Rattle.gix_refspec_plan.specs.Matching.Plan.{IsPlan, Wish}
use Rattle.gix_refspec_plan.specs.Views.Plan.{planned_of}
use Rattle.gix_refspec_text.specs.Matching.Side.{candidates, written_name_of}
use Rattle.gix_refspec_text.specs.Texts.Bytes.{head}
use Rattle.gix_refspec_text.specs.Texts.Words.{BeginsWith}
use Rattle.gix_refspec_text.specs.Specs.Reading.{all_tags, fetched_alone}
use Rattle.gix_refspec_text.specs.declared.spec.RefSpecRef.{RefSpecRef}
use Rattle.refspec_io.specs.declared.call.Form.{Form}
use Rattle.refspec_io.specs.declared.report.Report.{Report as DeclaredReport}
use Rattle.refspec_fetch.specs.Answer.{takes_all}
use Rattle.refspec_fetch.specs.Report.{Report, report_of}
use Rattle.refspec_request.specs.declared.arguments.Request.{Request}
use Rattle.refspec_request.specs.declared.choice.Choice.{Choice}
use Rattle.refspec_request.specs.declared.choice.Repository.{Repository}
use Rattle.refspec_request.specs.declared.refusal.Refusal.{Refusal}
use Rattle.refspec_request.specs.declared.refusal.Refusal.TheVariants as refusal
use Rattle.refspec_git.specs.declared.answer.Answer.{Answer}
use Rattle.refspec_git.specs.declared.answer.Answer.TheVariants as answer
use Rattle.refspec_git.specs.declared.answer.Stop.{Stop}
use Rattle.refspec_git.specs.declared.answer.Stop.TheVariants as stop
use Rattle.refspec_git.specs.declared.specs.Specs.{Specs}
use Rattle.refspec_git.specs.Answers.{IsReport}
use Rattle.refspec_git.specs.declared.fates.Asked.{Asked}
use Rattle.refspec_git.specs.Fates.{AddsOwnSpec, AnswersAbout, IsAsked, IsAskedBy, IsListed, IsLocal, IsRemote}
use Rattle.refspec_git.specs.Fates.{IsUnlisted, MayBeAlone}
use Rattle.refspec_git.specs.Fates.{MeansRef, NeverAlone, PlansFor, RefusesAbout, RefusesAsked, RefusesFates}
use Rattle.refspec_git.specs.Fates.{RefusesName, ReportsFates}
use Rattle.refspec_git.specs.Fetch.{AreAmong}
use Rattle.refspec_git.specs.Named.{HasFirst}
use Rattle.refspec_git.specs.Wanted.{AreSpecsOf, RefusesSpecs}
use Rattle.refspec_git.proofs.AnswerLemmas.{filled}

-- a tracking ref that no ref of the remote is called is local, and one that is isn't
pub local_or_remote : (items : List Item) (name : List ℕ) (b : Bool) → BeginsWith (codes "refs/remotes/") name
    → MatchBool b (IsListed items name) (IsUnlisted items name)
    → MatchBool (not b) (IsLocal items name) (IsRemote items name)
local_or_remote items name true begins listed = inr listed
local_or_remote items name false begins unlisted = (begins, unlisted)

-- a report answers a question about a ref
pub about_reported : (r : Repository) (form : Form) (name : List ℕ) (choice : Choice) (s : Specs) (lines : List ℕ)
    (old new : DeclaredReport) (status : ℕ) (a : Answer) → AreSpecsOf r choice s → report_of old ≡ filled form [] []
    → ReportsFates s lines name status (report_of old) (report_of new) → IsReport new status a
    → AnswersAbout r form name choice a
about_reported r form name choice s lines old new status (answer.Asks asked) are empty reports is = absurd is
about_reported r form name choice s lines old new status (answer.Reports output) are empty reports is = record {
  specs = s;
  lines = lines;
  report = report_of new;
  are_specs = are;
  reports = subst (λ n. ReportsFates s lines name n (filled form [] []) (report_of new)) (sym is.2)
      (subst (λ (p : Report). ReportsFates s lines name status p (report_of new)) empty reports);
  results = ap (λ v. v.items) is.0;
  messages = ap (λ v. v.items) is.1;
}

-- no arguments are refused where there are none
no_spec : (e : Refusal) → RefusesSpecs [] e → ⊥
no_spec (refusal.NotUtf8 text) is = omega (arith, is.0.1)
no_spec refusal.NoTagName is =
    omega (arith, ap length is.3, length-append is.0 (codes "tag" ∷ []))
no_spec refusal.NoCommand is = is
no_spec (refusal.NoSuchCommand a) is = is
no_spec (refusal.NoSuchOption a) is = is
no_spec (refusal.NeedlessValue a) is = is
no_spec (refusal.OptionElsewhere a b) is = is
no_spec refusal.NoRemoteName is = is
no_spec refusal.NoRefmap is = is
no_spec refusal.IdleRefmap is = is
no_spec refusal.NoRef is = is
no_spec (refusal.UrlOrSpec a) is = is
no_spec (refusal.NoRemoteNoSpec a) is = is
no_spec refusal.NoDefault is = is
no_spec (refusal.Newline a) is = is
no_spec (refusal.NoRefName a) is = is
no_spec (refusal.NotARef a) is = is
no_spec (refusal.OldForm a b) is = is
no_spec (refusal.Group a b) is = is
no_spec (refusal.BadBoolean a b c) is = is
no_spec (refusal.NoValue a b) is = is
no_spec refusal.NoValuesAtAll is = is
no_spec (refusal.NoValuesOf a) is = is
no_spec refusal.NoMergedRef is = is
no_spec (refusal.NoBranchAtHead a) is = is
no_spec refusal.RemoteOfBranches is = is
no_spec refusal.ArgumentsOfWhy is = is
no_spec refusal.OtherRefused is = is
no_spec refusal.Memory is = is

-- what one argument asks about
pub asked_alone : (option : Option (Bor (List ℕ))) (arguments : List (Bor (List ℕ))) (none : Bor (List ℕ))
    (o : Result Asked Refusal) → 1 ≤ length arguments → length arguments < 2
    → MatchResult o (IsAskedBy (get_or arguments 0 none) option) (RefusesName (get_or arguments 0 none))
    → MatchResult o (IsAsked option arguments) (RefusesAsked option arguments)
asked_alone option [] none o least below is = absurd (omega (arith, least))
asked_alone option (a ∷ []) none (Ok asked) least below is = (a, option, (refl, refl), is)
asked_alone option (a ∷ []) none (Err e) least below is = inr (a, option, (refl, refl), is)
asked_alone option (a ∷ (b ∷ rest)) none o least below is = absurd (omega (arith, below))

-- and two, without an option
pub asked_both : (arguments : List (Bor (List ℕ))) (none : Bor (List ℕ)) (o : Result Asked Refusal)
    → 2 ≤ length arguments → length arguments < 3
    → MatchResult o (IsAskedBy (get_or arguments 0 none) (Some (get_or arguments 1 none)))
    (RefusesName (get_or arguments 0 none))
    → MatchResult o (IsAsked None arguments) (RefusesAsked None arguments)
asked_both [] none o least below is = absurd (omega (arith, least))
asked_both (a ∷ []) none o least below is = absurd (omega (arith, least))
asked_both (a ∷ (b ∷ [])) none (Ok asked) least below is = (a, Some b, (refl, refl), is)
asked_both (a ∷ (b ∷ [])) none (Err e) least below is = inr (a, Some b, (refl, refl), is)
asked_both (a ∷ (b ∷ (d ∷ rest))) none o least below is = absurd (omega (arith, below))

-- a choice without specs is refused by nothing but a failure
pub refusal_of : (r : Repository) (request : Request) (choice : Choice) (o : Result Answer Stop)
    → choice.specs.items ≡ [] → IfErr o (RefusesAbout choice) → IfErr o (RefusesFates r request)
refusal_of r request choice (Ok a) none is = is
refusal_of r request choice (Err (stop.Refused e)) none is =
    absurd (no_spec e (subst (λ (l : List (Bor (List ℕ))). RefusesSpecs (map (λ text. text.now) l) e) none is))
refusal_of r request choice (Err (stop.Failed fault)) none is = tt

-- the spec of the ref alone is added, or none
pub alone_added : (n : List ℕ) (updates : List Update) (old new : List RefSpecRef) (spec : RefSpecRef)
    → MayBeAlone n updates × (reading_of spec ≡ fetched_alone n) → new ≡ old ++ spec ∷ []
    → AddsOwnSpec n updates (map reading_of old) (map reading_of new)
alone_added n updates old new spec is grown = (
  fetched_alone n ∷ [],
  inl (is.0, refl),
  ap (map reading_of) grown ∙ (map-append reading_of old (spec ∷ [])
      ∙ ap (λ r. map reading_of old ++ r ∷ []) is.1),
)

pub alone_left : (n : List ℕ) (updates : List Update) (old : List Reading) → NeverAlone n updates
    → AddsOwnSpec n updates old old
alone_left n updates old never = ([], inr (never, refl), sym (append-nil old))

-- that of all tags is added, or none
pub all_added : (old new : List RefSpecRef) (spec : RefSpecRef) (b : Bool) → true ≡ b → reading_of spec ≡ all_tags
    → new ≡ old ++ spec ∷ [] → map reading_of new ≡ map reading_of old ++ cond b (all_tags ∷ []) []
all_added old new spec b so is grown = ap (map reading_of) grown ∙ (map-append reading_of old (spec ∷ [])
    ∙ (ap (λ r. map reading_of old ++ r ∷ []) is ∙ ap (λ c. map reading_of old ++ cond c (all_tags ∷ []) []) so))

pub none_added : (old : List Reading) (b : Bool) → false ≡ b → old ≡ old ++ cond b (all_tags ∷ []) []
none_added old b is = sym (append-nil old) ∙ ap (λ c. old ++ cond c (all_tags ∷ []) []) is

-- the plan of the specs
pub PlansFor-of : (s : Specs) (g : List Reading) (refs : List Ref) (wish : Wish) (o : Result Plan AllocError)
    → wish.given ≡ take (length s.given.items) g → wish.configured ≡ drop (length s.given.items) g
    → AreAmong (map (λ m. m.now) s.merges.items) wish.merges → wish.tags ≡ takes_all s.tags
    → IfOk o (λ p. IsPlan wish refs (map planned_of p.updates.items) p.missing.items)
    → IfOk o (λ p. PlansFor s g refs p.updates.items)
PlansFor-of s g refs wish (Ok p) given configured merges tags is = record {
  wish = wish;
  missing = p.missing.items;
  given = given;
  configured = configured;
  merges = merges;
  tags = tags;
  plan = is;
}
PlansFor-of s g refs wish (Err e) given configured merges tags is = is

-- a ref at an index has the name
pub listed_at : (items : List Item) (n : List ℕ) (k : ℕ) (none : Item) → k < length items
    → (ref_of (get_or items k none)).name ≡ n → IsListed items n
listed_at items n k none within is =
    (k, get_or items k none, within, get_or_default items k (get_or items k none) none within, is)

-- the first of the candidates is meant
pub means_first : (items : List Item) (name : List ℕ) (all texts : List BString) (first : List ℕ)
    (o : Result BString AllocError) → map bstring_bytes all ≡ candidates name → texts ≡ all
    → HasFirst (λ n. IsUnlisted items (bstring_bytes n))
    (λ n. IsListed items (bstring_bytes n) × (first ≡ bstring_bytes n)) texts
    → IfOk o (λ full. bstring_bytes full ≡ first ++ []) → IfOk o (λ full. MeansRef items name (bstring_bytes full))
means_first items name all texts first (Ok full) are same found is =
    inl (subst (HasFirst (IsUnlisted items) (λ n. IsListed items n × (bstring_bytes full ≡ n))) are (record {
      before = map bstring_bytes found.before;
      at = bstring_bytes found.at;
      behind = map bstring_bytes found.behind;
      parts = ap (map bstring_bytes) (sym same ∙ found.parts)
          ∙ map-append bstring_bytes found.before (found.at ∷ found.behind);
      passed = All-map (IsUnlisted items) bstring_bytes found.before found.passed;
      holds = (found.holds.0, is ∙ (append-nil first ∙ found.holds.1));
    }))
means_first items name all texts first (Err e) are same found is = is

-- none has a ref, so a new one is meant
pub means_new : (items : List Item) (name : List ℕ) (all texts : List BString) (o : Result BString AllocError)
    → map bstring_bytes all ≡ candidates name → texts ≡ all
    → All (λ n. IsUnlisted items (bstring_bytes n)) texts
    → IfOk o (λ full. bstring_bytes full ≡ written_name_of name)
    → IfOk o (λ full. MeansRef items name (bstring_bytes full))
means_new items name all texts (Ok full) are same none is =
    inr (
      subst (All (IsUnlisted items)) (ap (map bstring_bytes) same ∙ are)
          (All-map (IsUnlisted items) bstring_bytes texts none),
      is,
    )
means_new items name all texts (Err e) are same none is = is

-- a valid name is below `refs/`, or `HEAD`
pub full_or_head : (n : List ℕ) → IsRefName n → BeginsWith (codes "refs/") n ⊎ (n ≡ head)
full_or_head n (inl below) = inl below.0
full_or_head n (inr is) = inr is
