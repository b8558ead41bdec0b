-- The specs by which a client asks a server for refs, as `git fetch` does by protocol v2 (git-fetch(1)), and what
-- `git refspec prefixes` reports of them.
use Rattle.std.specs.Prelude.{◌≡◌, ◌≢◌, ◌⊎◌, ℕ, Bool, true, false, List, [], ◌∷◌, ◌++◌, codes, cond, map}
use Rattle.gix_refspec.specs.Matching.RefNames.{IsRefName}
use Rattle.gix_refspec.specs.Specs.Reading.{Reading}
use Rattle.gix_refspec_text.specs.declared.parsing.Operation.TheVariants as operation
use Rattle.refspec_io.specs.Read.{AreRead}
use Rattle.refspec_io.specs.Texts.{Given, argument_at, given_of, said}
use Rattle.refspec_commands.specs.declared.prefixes.report.Notation.{Notation}
use Rattle.refspec_commands.specs.declared.prefixes.report.Notation.TheVariants as notation
use Rattle.refspec_commands.specs.Prefixes.{AddsPrefixes}
use Rattle.refspec_fetch.specs.declared.question.Tags.{Tags}
use Rattle.refspec_fetch.specs.declared.question.Tags.TheVariants as tags
use Rattle.refspec_fetch.specs.Report.{Report}
use Rattle.refspec_request.specs.declared.arguments.Request.{Request}
use Rattle.refspec_request.specs.declared.choice.Choice.{Choice}
use Rattle.refspec_request.specs.declared.choice.Repository.{Repository}
use Rattle.refspec_request.specs.declared.output.Output.{Output}
use Rattle.refspec_git.specs.declared.answer.Answer.{Answer}
use Rattle.refspec_git.specs.declared.answer.Answer.TheVariants as answer
use Rattle.refspec_git.specs.declared.specs.Specs.{Specs}
use Rattle.refspec_git.specs.Fetch.{RefusesTexts, given_texts, merged_name}
use Rattle.refspec_git.specs.Wanted.{AreSpecsOf, all_tags}

-- a spec that is written nowhere, as the first argument
abbrev pub unwritten : List ℕ → Given
unwritten bytes = argument_at operation.Fetch 1 bytes

-- the texts of merged refs, in order: Git asks for those alone whose names are `HEAD` or full names
abbrev pub AreMergedTexts : List (List ℕ) → List Given → Type 0
AreMergedTexts [] texts = texts ≡ []
AreMergedTexts (m ∷ merges) texts =
    (IsRefName (merged_name m) × (rest : List Given) × AreMergedTexts merges rest
    × (texts ≡ unwritten (merged_name m) ∷ rest))
    ⊎ (¬ (IsRefName (merged_name m)) × AreMergedTexts merges texts)

-- those; or without any merged ref that of `HEAD`
abbrev pub AreMergedOrHead : List (List ℕ) → List Given → Type 0
AreMergedOrHead [] texts = texts ≡ unwritten (codes "HEAD") ∷ []
AreMergedOrHead (m ∷ merges) texts = AreMergedTexts (m ∷ merges) texts

-- the texts of configured specs and of merged refs, or of these alone
abbrev pub AreConfiguredTexts : List Given → List (List ℕ) → List Given → Type 0
AreConfiguredTexts [] merges texts = AreMergedOrHead merges texts
AreConfiguredTexts (t ∷ configured) merges texts =
    (merged : List Given) × AreMergedTexts merges merged × (texts ≡ (t ∷ configured) ++ merged)

-- the texts of the given specs, or without any these
abbrev pub AreNamedTexts : Specs → List Given → Type 0
AreNamedTexts s texts =
    ((s.given.items ≢ []) × (texts ≡ given_texts (map (λ t. t.bytes.items) s.given.items)))
    ⊎ ((s.given.items ≡ []) × AreConfiguredTexts (map given_of s.configured.items)
    (map (λ m. m.now) s.merges.items) texts)

-- tags are asked for, unless they are left: Git follows those of what it fetches
abbrev pub asks_tags : Tags → Bool
asks_tags tags.Followed = true
asks_tags tags.All = true
asks_tags tags.Left = false

-- and that of all tags, if these are asked for
abbrev pub AreAskedTexts : Specs → List Given → Type 0
AreAskedTexts s texts = (named : List Given) × AreNamedTexts s named
    × (texts ≡ named ++ cond (asks_tags s.tags) (unwritten all_tags ∷ []) [])

-- what is asked for beside the specs: `HEAD`, if the request asks for that
abbrev pub head_of : (head : Bool) → List (List ℕ)
head_of head = cond head (codes "HEAD" ∷ []) []

-- the prefixes for specs, and some beside these, were reported
pub record ReportsPrefixes (beside : List (List ℕ)) (n : Notation) (texts : List Given) (old new : Report) :
    Type 0 where
  pub g : List Reading
  pub read : AreRead (map said texts) g
  pub reported : AddsPrefixes beside n old.form g old.results new.results

-- how they are written: as patterns if the request asks for these
abbrev pub notation_of : Bool → Notation
notation_of patterns = cond patterns notation.Pattern notation.Argument

-- the prefixes that a client asks with for these specs, with status 0; or with status 1 only the specs that are refused
abbrev pub ReportsAsked : List (List ℕ) → Notation → Specs → ℕ → Report → Report → Type 0
ReportsAsked beside n s status old new = (texts : List Given) × AreAskedTexts s texts
    × (((status ≡ 0) × ReportsPrefixes beside n texts old new) ⊎ ((status ≡ 1) × RefusesTexts texts old new))

-- a request for the prefixes of a remote ends with this report
pub record IsPrefixes (r : Repository) (request : Request) (choice : Choice) (output : Output) : Type 0 where
  pub asked : Specs
  pub report : Report
  pub specs : AreSpecsOf r choice asked
  pub reports : ReportsAsked (head_of request.head) (notation_of request.patterns) asked output.status
      (record { form = request.form; results = []; messages = [] }) report
  pub results : output.results.items ≡ report.results
  pub messages : output.messages.items ≡ report.messages

abbrev pub AnswersPrefixes : Repository → Request → Choice → Answer → Type 0
AnswersPrefixes r request choice (answer.Asks lines) = ⊥
AnswersPrefixes r request choice (answer.Reports output) = IsPrefixes r request choice output
