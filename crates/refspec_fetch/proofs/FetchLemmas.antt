-- The question of a task.
use Rattle.std.proofs.Common.{◌≡◌, ℕ, Bool, true, false, List, length, map, take, drop, min, inl, inr, ltb, refl, ap}
use Rattle.std.proofs.Common.{◌∙◌, subst, sym}
use Rattle.std.proofs.lemmas.List.{take_min, drop_min, take-map, drop-map}
use Rattle.gix_refspec_text.specs.declared.spec.RefSpecRef.{RefSpecRef}
use Rattle.gix_refspec.specs.Specs.Reading.{Reading}
use Rattle.gix_refspec.specs.Views.Spec.{reading_of}
use Rattle.gix_refspec_plan.specs.Matching.Plan.{Wish}
use Rattle.refspec_io.specs.declared.call.Command.{Command}
use Rattle.refspec_io.specs.declared.call.Command.TheVariants as command
use Rattle.gix_refspec.specs.Matching.Match.{Ref}
use Rattle.refspec_io.specs.declared.call.Task.{Task}
use Rattle.refspec_io.specs.declared.report.Report.{Report as DeclaredReport}
use Rattle.refspec_fetch.specs.declared.answer.Answer.{Answer as DeclaredAnswer}
use Rattle.refspec_fetch.specs.declared.question.Question.{Question as DeclaredQuestion}
use Rattle.refspec_fetch.specs.declared.question.Subject.TheVariants as subject
use Rattle.refspec_fetch.specs.declared.report.Style.{Style}
use Rattle.refspec_fetch.specs.Answer.{Answer, IsAnswer, IsStatus, answer_of, question_of}
use Rattle.refspec_fetch.specs.Fetch.{AddsFetch, AreListed, Asks, IsRefused, style_of, subject_by}
use Rattle.refspec_fetch.specs.Report.{AddsAnswer, report_of}

-- a wish of its parts
abbrev pub made : List Reading → List Reading → List (List ℕ) → Bool → Wish
made given configured merges tags = record { given = given; configured = configured; merges = merges; tags = tags }

-- the given specs are the first ones
pub first_specs : (given : ℕ) (specs front : List RefSpecRef) (n : ℕ) → n ≡ min given (length specs)
    → front ≡ take n specs → map reading_of front ≡ take given (map reading_of specs)
first_specs given specs front n many is =
    ap (map reading_of) (is ∙ (ap (λ (m : ℕ). take m specs) many ∙ take_min given specs))
    ∙ sym (take-map reading_of given specs)

-- and the others are configured
pub other_specs : (given : ℕ) (specs back : List RefSpecRef) (n : ℕ) → n ≡ min given (length specs)
    → back ≡ drop n specs → map reading_of back ≡ drop given (map reading_of specs)
other_specs given specs back n many is =
    ap (map reading_of) (is ∙ (ap (λ (m : ℕ). drop m specs) many ∙ drop_min given specs))
    ∙ sym (drop-map reading_of given specs)

-- equal parts make equal wishes
pub made-same : (given g configured k : List Reading) (merges ms : List (List ℕ)) (tags t : Bool) → given ≡ g
    → configured ≡ k → merges ≡ ms → tags ≡ t
    → made given configured merges tags ≡ made g k ms t
made-same given g configured k merges ms tags t is_given is_configured is_merges is_tags =
    ap (λ x. made x configured merges tags) is_given ∙ (ap (λ x. made g x merges tags) is_configured
    ∙ (ap (λ x. made g k x tags) is_merges ∙ ap (λ x. made g k ms x) is_tags))

-- the status as a flag
pub IsRefused-of : (a : Answer) (status : ℕ) → IsStatus a status → IsRefused a (ltb 0 status)
IsRefused-of a status (inl well) = subst (λ (n : ℕ). IsRefused a (ltb 0 n)) (sym well.0) (inl (refl, well.1))
IsRefused-of a status (inr bad) = subst (λ (n : ℕ). IsRefused a (ltb 0 n)) (sym bad.0) (inr (refl, bad.1))

-- the refs of a question that are those of lists
pub listed-same : (task : Task) (refs r local l : List Ref) (unread u : List (List ℕ)) → refs ≡ r → local ≡ l
    → unread ≡ u
    → AreListed task r l u → AreListed task refs local unread
listed-same task refs r local l unread u same_refs same_local same_unread listed =
    subst (λ x. AreListed task x local unread) (sym same_refs) (subst (λ x. AreListed task r x unread) (sym same_local)
    (subst (λ x. AreListed task r l x) (sym same_unread) listed))

-- what was reported of the answer to a question of a task
pub AddsFetch-of : (task : Task) (g : List Reading) (status : ℕ) (q : DeclaredQuestion) (a : DeclaredAnswer)
    (style : Style) (old mid new : DeclaredReport)
    → Asks task g (question_of q) → a.question ≡ q → IsAnswer (answer_of a) → IsStatus (answer_of a) status
    → style ≡ style_of task.call.now
    → mid ≡ old → AddsAnswer style (answer_of a) (report_of mid) (report_of new) → AddsFetch task g (ltb 0 status)
    (report_of old) (report_of new)
AddsFetch-of task g status q a style old mid new asks same answers ended same_style same_old reported = inl (record {
  answer = answer_of a;
  asked = subst (λ (x : DeclaredQuestion). Asks task g (question_of x)) (sym same) asks;
  answers = answers;
  ended = IsRefused-of (answer_of a) status ended;
  reported = subst (λ (x : Style). AddsAnswer x (answer_of a) (report_of old) (report_of new)) same_style
      (subst (λ (x : DeclaredReport). AddsAnswer style (answer_of a) (report_of x) (report_of new)) same_old reported);
})
