-- The specs by which a client asks a server for refs.
use Rattle.std.proofs.Common.{◌≡◌, ◌≢◌, ◌∙◌, ◌==◌, ℕ, Bool, Bor, List, [], ◌∷◌, ◌++◌, ap, append-nil, codes, cond}
use Rattle.std.proofs.Common.{false, inl, inr, length, map, refl, subst, sym, true}
use Rattle.std.proofs.lemmas.Bool.{eqb-true, false≢true}
use Rattle.std.proofs.lemmas.List.{map-append, nil_from_length}
use Rattle.gix_refspec.specs.Matching.RefNames.{IsRefName}
use Rattle.gix_refspec.specs.Specs.Reading.{Reading}
use Rattle.refspec_commands.specs.declared.prefixes.answer.Answer.{Answer as Prefixes}
use Rattle.refspec_commands.specs.declared.prefixes.report.Notation.{Notation}
use Rattle.refspec_commands.specs.Prefixes.{AddsAnswer, IsAnswer}
use Rattle.refspec_io.specs.declared.report.Report.{Report as DeclaredReport}
use Rattle.refspec_io.specs.declared.texts.Text.{Text}
use Rattle.refspec_io.specs.Read.{AreRead}
use Rattle.refspec_io.specs.Texts.{Given, given_of, said}
use Rattle.refspec_fetch.specs.Report.{Report, report_of}
use Rattle.refspec_request.specs.declared.arguments.Request.{Request}
use Rattle.refspec_request.specs.declared.choice.Choice.{Choice}
use Rattle.refspec_request.specs.declared.choice.Repository.{Repository}
use Rattle.refspec_git.specs.declared.answer.Answer.{Answer}
use Rattle.refspec_git.specs.declared.answer.Answer.TheVariants as answer
use Rattle.refspec_git.specs.declared.specs.Specs.{Specs}
use Rattle.refspec_git.specs.Answers.{IsReport}
use Rattle.refspec_git.specs.Asked.{AnswersPrefixes, AreAskedTexts, AreConfiguredTexts, AreMergedOrHead, AreMergedTexts}
use Rattle.refspec_git.specs.Asked.{ReportsAsked, head_of, notation_of, unwritten}
use Rattle.refspec_git.specs.Fetch.{RefusesTexts, merged_name}
use Rattle.refspec_git.specs.Wanted.{AreSpecsOf, all_tags}
use Rattle.refspec_git.proofs.AnswerLemmas.{filled}

-- one more merged ref, for which the server is asked
pub merged_kept : (merges : List (List ℕ)) (texts : List Given) (m : List ℕ) → AreMergedTexts merges texts
    → IsRefName (merged_name m)
    → AreMergedTexts (merges ++ m ∷ []) (texts ++ unwritten (merged_name m) ∷ [])
merged_kept [] texts m none is = inl (is, [], refl, ap (λ l. l ++ unwritten (merged_name m) ∷ []) none)
merged_kept (n ∷ merges) texts m (inl (named, rest, are, parts)) is = inl (
  named,
  rest ++ unwritten (merged_name m) ∷ [],
  merged_kept merges rest m are is,
  ap (λ l. l ++ unwritten (merged_name m) ∷ []) parts,
)
merged_kept (n ∷ merges) texts m (inr (other, are)) is = inr (other, merged_kept merges texts m are is)

-- one more for which it isn't
pub merged_skipped : (merges : List (List ℕ)) (texts : List Given) (m : List ℕ) → AreMergedTexts merges texts
    → ¬ (IsRefName (merged_name m)) → AreMergedTexts (merges ++ m ∷ []) texts
merged_skipped [] texts m none other = inr (other, none)
merged_skipped (n ∷ merges) texts m (inl (named, rest, are, parts)) other =
    inl (named, rest, merged_skipped merges rest m are other, parts)
merged_skipped (n ∷ merges) texts m (inr (unnamed, are)) other =
    inr (unnamed, merged_skipped merges texts m are other)

-- a text more for it
pub merged_more : (merges : List (List ℕ)) (m name : List ℕ) (old new : List Text) (t : Text) → name ≡ merged_name m
    → IsRefName name → given_of t ≡ unwritten name → new ≡ old ++ t ∷ [] → AreMergedTexts merges (map given_of old)
    → AreMergedTexts (merges ++ m ∷ []) (map given_of new)
merged_more merges m name old new t same named is grown are =
    subst (AreMergedTexts (merges ++ m ∷ []))
    (sym (ap (map given_of) grown ∙ (map-append given_of old (t ∷ [])
    ∙ ap (λ g. map given_of old ++ g ∷ []) (is ∙ ap unwritten same))))
    (merged_kept merges (map given_of old) m are (subst IsRefName same named))

-- or none
pub merged_none : (merges : List (List ℕ)) (m name : List ℕ) (old : List Given) → name ≡ merged_name m
    → ¬ (IsRefName name) → AreMergedTexts merges old → AreMergedTexts (merges ++ m ∷ []) old
merged_none merges m name old same other are =
    merged_skipped merges old m are (λ named. other (subst IsRefName (sym same) named))

-- what a test for an empty list tells
pub empty : {X : Type 0} (xs : List X) → true ≡ (length xs == 0) → xs ≡ []
empty xs so = nil_from_length xs (eqb-true (length xs) 0 (sym so))

pub not_empty : {X : Type 0} (xs : List X) → false ≡ (length xs == 0) → xs ≢ []
not_empty xs test e = false≢true (test ∙ ap (λ l. length l == 0) e)

-- the texts of merged refs, or that of `HEAD`
pub head_alone : (merges : List (Bor (List ℕ))) (texts : List Given) → merges ≡ []
    → texts ≡ unwritten (codes "HEAD") ∷ [] → AreMergedOrHead (map (λ m. m.now) merges) texts
head_alone merges texts none is =
    subst (λ (l : List (Bor (List ℕ))). AreMergedOrHead (map (λ m. m.now) l) texts) (sym none) is

pub merged_alone : (merges : List (Bor (List ℕ))) (texts : List Given) → merges ≢ []
    → AreMergedTexts (map (λ m. m.now) merges) texts → AreMergedOrHead (map (λ m. m.now) merges) texts
merged_alone [] texts some are = absurd (some refl)
merged_alone (m ∷ merges) texts some are = are

-- behind configured specs, or alone
pub configured_none : (configured : List Text) (merges : List (List ℕ)) (texts : List Given) → configured ≡ []
    → AreMergedOrHead merges texts → AreConfiguredTexts (map given_of configured) merges texts
configured_none configured merges texts none are =
    subst (λ (l : List Text). AreConfiguredTexts (map given_of l) merges texts) (sym none) are

pub configured_some : (configured merged all : List Text) (merges : List (List ℕ)) → configured ≢ []
    → AreMergedTexts merges (map given_of merged) → all ≡ configured ++ merged
    → AreConfiguredTexts (map given_of configured) merges (map given_of all)
configured_some [] merged all merges some are parts = absurd (some refl)
configured_some (t ∷ configured) merged all merges some are parts =
    (map given_of merged, are, ap (map given_of) parts ∙ map-append given_of (t ∷ configured) merged)

-- all tags are asked for, or not
pub tags_added : (old new : List Text) (t : Text) (b : Bool) → true ≡ b → given_of t ≡ unwritten all_tags
    → new ≡ old ++ t ∷ [] → map given_of new ≡ map given_of old ++ cond b (unwritten all_tags ∷ []) []
tags_added old new t b so is grown = ap (map given_of) grown ∙ (map-append given_of old (t ∷ [])
    ∙ (ap (λ g. map given_of old ++ g ∷ []) is
    ∙ ap (λ c. map given_of old ++ cond c (unwritten all_tags ∷ []) []) so))

pub tags_left : (old : List Given) (b : Bool) → false ≡ b → old ≡ old ++ cond b (unwritten all_tags ∷ []) []
tags_left old b is = sym (append-nil old) ∙ ap (λ c. old ++ cond c (unwritten all_tags ∷ []) []) is

-- the prefixes for specs, or the refused texts, were reported
pub prefixes_shown : (beside : List (List ℕ)) (n : Notation) (s : Specs) (texts read : List Text) (g : List Reading)
    (found : Prefixes)
    (old mid new : Report) → AreAskedTexts s (map given_of texts) → read ≡ texts
    → AreRead (map said (map given_of read)) g → mid ≡ old → IsAnswer beside g found
    → AddsAnswer n found mid.form mid.results new.results → ReportsAsked beside n s 0 old new
prefixes_shown beside n s texts read g found old mid new asked same are kept is adds = (
  map given_of texts,
  asked,
  inl (
    refl,
    record {
      g = g;
      read = subst (λ (l : List Text). AreRead (map said (map given_of l)) g) same are;
      reported = (
        found,
        is,
        subst (λ (p : Report). AddsAnswer n found p.form p.results new.results) kept adds,
      );
    },
  ),
)

pub refused_shown : (beside : List (List ℕ)) (n : Notation) (s : Specs) (texts read : List Text) (old new : Report)
    → AreAskedTexts s (map given_of texts) → read ≡ texts → RefusesTexts (map given_of read) old new
    → ReportsAsked beside n s 1 old new
refused_shown beside n s texts read old new asked same refuses = (
  map given_of texts,
  asked,
  inr (refl, subst (λ (l : List Text). RefusesTexts (map given_of l) old new) same refuses),
)

-- a report answers a request, if it is that on the prefixes of its specs
pub prefixes_reported : (r : Repository) (request : Request) (choice : Choice) (s : Specs) (n : Notation)
    (old new : DeclaredReport) (status : ℕ) (a : Answer) → AreSpecsOf r choice s → n ≡ notation_of request.patterns
    → report_of old ≡ filled request.form [] [] → ReportsAsked (head_of request.head) n s status (report_of old)
    (report_of new)
    → IsReport new status a → AnswersPrefixes r request choice a
prefixes_reported r request choice s n old new status (answer.Asks lines) are written empty reports is = absurd is
prefixes_reported r request choice s n old new status (answer.Reports output) are written empty reports is = record {
  asked = s;
  report = report_of new;
  specs = are;
  reports = subst (λ k. ReportsAsked (head_of request.head) (notation_of request.patterns) s k
      (filled request.form [] []) (report_of new))
      (sym is.2)
      (subst (λ m. ReportsAsked (head_of request.head) m s status (filled request.form [] []) (report_of new)) written
      (subst (λ p. ReportsAsked (head_of request.head) n s status p (report_of new)) empty reports));
  results = ap (λ v. v.items) is.0;
  messages = ap (λ v. v.items) is.1;
}
