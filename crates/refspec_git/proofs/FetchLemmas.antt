-- What is asked about a fetch, and reported of it.
use Rattle.std.proofs.Common.{◌≡◌, ◌∙◌, ◌<◌, ◌+◌, ℕ, true, Bor, List, [], ◌∷◌, ◌++◌, ap, get_or, inl, inr, length}
use Rattle.std.proofs.Common.{map, refl, sym, subst, take, None, Some}
use Rattle.std.proofs.lemmas.List.{append-nil, map-append, take_more}
use Rattle.bstr.specs.BStr.{bstr_bytes}
use Rattle.bstr.specs.declared.bstr.BStr.{BStr}
use Rattle.std.specs.List.{AllZip}
use Rattle.gix_refspec.specs.Matching.Match.{Ref}
use Rattle.gix_refspec.specs.Specs.Reading.{Reading}
use Rattle.gix_refspec.specs.Views.Group.{ref_of}
use Rattle.gix_refspec_match.specs.declared.types.Item.{Item}
use Rattle.gix_refspec_match.specs.Matching.Lists.{IsMadeFrom}
use Rattle.gix_refspec_match.proofs.lemmas.lists.JoinLemmas.{made_more}
use Rattle.refspec_io.specs.declared.checked.Checked.{Checked}
use Rattle.refspec_io.specs.declared.report.Report.{Report}
use Rattle.refspec_io.specs.declared.texts.Text.{Text}
use Rattle.refspec_io.specs.Json.{AddsObjects}
use Rattle.refspec_io.specs.Messages.{ReportsRefusals}
use Rattle.refspec_io.specs.Read.{HasBad, IsChecked, IsRefusalOf}
use Rattle.refspec_io.specs.Shown.{KeepsReport}
use Rattle.refspec_io.specs.Texts.{given_of}
use Rattle.refspec_io.proofs.CheckedLemmas.{AddsIfRead-of}
use Rattle.refspec_io.proofs.MessageLemmas.{AreRefusals-of}
use Rattle.refspec_fetch.specs.declared.answer.Answer.{Answer}
use Rattle.refspec_fetch.specs.declared.question.Question.{Question}
use Rattle.refspec_fetch.specs.Answer.{IsAnswer, IsStatus, answer_of, asks_updates, question_of}
use Rattle.refspec_fetch.specs.Report.{report_of}
use Rattle.refspec_git.specs.declared.plan.Fetch.{Fetch}
use Rattle.refspec_git.specs.Fetch.{AddsNoted, AreAmong, Asks, IsWhole, MayNote, RefusesTexts, ReportsAnswer}
use Rattle.refspec_git.specs.Fetch.{merged_name}

-- the refused texts were reported
pub RefusesTexts-of : (texts : List Text) (all : List Checked) (old new : Report) → AllZip IsChecked texts all
    → HasBad all → AddsObjects old.form IsRefusalOf all old.results.items new.results.items
    → ReportsRefusals old.form all old.messages.items new.messages.items → new.form ≡ old.form
    → RefusesTexts (map given_of texts) (report_of old) (report_of new)
RefusesTexts-of texts all old new is bad objects said form =
    elim (AddsIfRead-of (λ (g : List Reading) (o n : List ℕ). ⊥) (Unit {0}) (Unit {0}) old.form true texts all
    old.results.items
    new.results.items is (λ t. t) (inr (bad, objects, refl, tt))) [
      | inl read ↦ absurd read.2
      | inr refused ↦ record {
        some = refused.0;
        objects = refused.1;
        messages = λ none. AreRefusals-of old.form texts all old.messages.items new.messages.items is none said;
        form = form;
      }
    ]

-- one more merged ref that isn't kept
AreAmong-skip : (merges kept : List (List ℕ)) (m : List ℕ) → AreAmong merges kept → AreAmong (merges ++ m ∷ []) kept
AreAmong-skip [] kept m none = inl none
AreAmong-skip (n ∷ merges) kept m (inl rest) = inl (AreAmong-skip merges kept m rest)
AreAmong-skip (n ∷ merges) kept m (inr (rest, among, is)) = inr (rest, AreAmong-skip merges rest m among, is)

-- one more merged ref that is kept
AreAmong-keep : (merges kept : List (List ℕ)) (m : List ℕ) → AreAmong merges kept
    → AreAmong (merges ++ m ∷ []) (kept ++ merged_name m ∷ [])
AreAmong-keep [] kept m none =
    inr ([], refl, subst (λ (l : List (List ℕ)). l ++ merged_name m ∷ [] ≡ merged_name m ∷ []) (sym none) refl)
AreAmong-keep (n ∷ merges) kept m (inl rest) = inl (AreAmong-keep merges kept m rest)
AreAmong-keep (n ∷ merges) kept m (inr (rest, among, is)) = inr (
  rest ++ merged_name m ∷ [],
  AreAmong-keep merges rest m among,
  subst (λ (l : List (List ℕ)). l ++ merged_name m ∷ [] ≡ merged_name n ∷ (rest ++ merged_name m ∷ [])) (sym is) refl,
)

-- one more merged ref, of those that are lent
among_next : (merges : List (Bor (List ℕ))) (i : ℕ) (d : Bor (List ℕ)) (kept : List (List ℕ)) → i < length merges
    → AreAmong (map (λ (m : Bor (List ℕ)). m.now) (take i merges) ++ (get_or merges i d).now ∷ []) kept
    → AreAmong (map (λ (m : Bor (List ℕ)). m.now) (take (i + 1) merges)) kept
among_next merges i d kept below among =
    let now = λ (m : Bor (List ℕ)). m.now in
    subst (λ (l : List (List ℕ)). AreAmong l kept)
    (sym (ap (map now) (take_more merges i d below) ∙ map-append now (take i merges) (get_or merges i d ∷ []))) among

-- one more, which isn't kept
pub AreAmong-skipped : (merges : List (Bor (List ℕ))) (i : ℕ) (d : Bor (List ℕ)) (kept : List (List ℕ))
    → i < length merges → AreAmong (map (λ (m : Bor (List ℕ)). m.now) (take i merges)) kept
    → AreAmong (map (λ (m : Bor (List ℕ)). m.now) (take (i + 1) merges)) kept
AreAmong-skipped merges i d kept below among =
    among_next merges i d kept below (AreAmong-skip _ kept (get_or merges i d).now among)

-- one more, which is kept
pub AreAmong-kept : (merges : List (Bor (List ℕ))) (i : ℕ) (d : Bor (List ℕ)) (old new : List BStr) (b : BStr)
    → i < length merges → new ≡ old ++ b ∷ [] → bstr_bytes b ≡ merged_name (get_or merges i d).now
    → AreAmong (map (λ (m : Bor (List ℕ)). m.now) (take i merges)) (map bstr_bytes old)
    → AreAmong (map (λ (m : Bor (List ℕ)). m.now) (take (i + 1) merges)) (map bstr_bytes new)
AreAmong-kept merges i d old new b below grown is among =
    let m = (get_or merges i d).now in
    let same : map bstr_bytes new ≡ map bstr_bytes old ++ merged_name m ∷ [] = ap (map bstr_bytes) grown
    ∙ (map-append bstr_bytes old (b ∷ []) ∙ ap (λ x. map bstr_bytes old ++ x ∷ []) is) in
    among_next merges i d (map bstr_bytes new) below
    (subst (AreAmong (map (λ (m : Bor (List ℕ)). m.now) (take i merges) ++ m ∷ [])) (sym same)
    (AreAmong-keep _ (map bstr_bytes old) m among))

-- the names of refs
abbrev pub names_in : List Item → List (List ℕ)
names_in items = map (λ (r : Ref). r.name) (map ref_of items)

-- one more line, of a ref that isn't symbolic
pub AreHere-more : (lines : List (Bor (List ℕ))) (i : ℕ) (d : Bor (List ℕ)) (old new : List Item) (item : Item)
    → i < length lines → new ≡ old ++ item ∷ [] → (get_or lines i d).now ≡ (ref_of item).name ++ (32 ∷ [])
    → IsMadeFrom IsWhole 0 (map (λ (l : Bor (List ℕ)). l.now) (take i lines)) (names_in old)
    → IsMadeFrom IsWhole 0 (map (λ (l : Bor (List ℕ)). l.now) (take (i + 1) lines)) (names_in new)
AreHere-more lines i d old new item below grown is so_far =
    made_more IsWhole (λ (l : Bor (List ℕ)). l.now) lines i d (names_in old) (names_in new) (Some (ref_of item).name)
    below so_far is (ap names_in grown ∙ (ap (map (λ (r : Ref). r.name)) (map-append ref_of old (item ∷ []))
    ∙ map-append (λ (r : Ref). r.name) (map ref_of old) (ref_of item ∷ [])))

-- one more line, of another ref
pub AreHere-other : (lines : List (Bor (List ℕ))) (i : ℕ) (d : Bor (List ℕ)) (items : List Item) → i < length lines
    → ((name : List ℕ) → ¬ ((get_or lines i d).now ≡ name ++ (32 ∷ [])))
    → IsMadeFrom IsWhole 0 (map (λ (l : Bor (List ℕ)). l.now) (take i lines)) (names_in items)
    → IsMadeFrom IsWhole 0 (map (λ (l : Bor (List ℕ)). l.now) (take (i + 1) lines)) (names_in items)
AreHere-other lines i d items below other so_far =
    made_more IsWhole (λ (l : Bor (List ℕ)). l.now) lines i d (names_in items) (names_in items) None below so_far other
    (sym (append-nil (names_in items)))

-- what keeps a report may note something
pub MayNote-of : (p q : Report) → KeepsReport p q → MayNote (report_of p) (report_of q)
MayNote-of p q kept = record { form = kept.form; kept = kept.kept }

-- what was reported of the answer to a question about a fetch
pub ReportsAnswer-of : (f : Fetch) (g : List Reading) (refs local : List Ref) (status : ℕ) (q : Question) (a : Answer)
    (old new : Report) → Asks f g refs local (question_of q) → a.question ≡ q → IsAnswer (answer_of a)
    → IsStatus (answer_of a) status
    → AddsNoted (asks_updates a.question.subject) f.style (answer_of a) (report_of old) (report_of new)
    → ReportsAnswer f g refs local status (report_of old) (report_of new)
ReportsAnswer-of f g refs local status q a old new asks same answers ended reported = record {
  answer = answer_of a;
  asked = subst (λ (x : Question). Asks f g refs local (question_of x)) (sym same) asks;
  answers = answers;
  ended = ended;
  reported = reported;
}
