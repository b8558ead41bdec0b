-- What `git refspec check` finds, and its exit status.
use Rattle.std.proofs.Common.{◌≡◌, ◌⊎◌, ◌∙◌, ◌++◌, ◌∷◌, ◌+◌, ◌<◌, [], inl, inr, ℕ, Bool, IsTrue, List, MatchBool, ap}
use Rattle.std.proofs.Common.{false, get_or, length, map, max, not, refl, subst, sym, take, true}
use Rattle.std.proofs.lemmas.List.{take_more}
use Rattle.refspec_io.specs.declared.checked.Checked.{Checked}
use Rattle.refspec_io.specs.declared.checked.Checked.TheVariants as checked
use Rattle.refspec_io.specs.declared.settings.Setting.{Setting}
use Rattle.refspec_io.specs.Read.{AreGood, HasBad}
use Rattle.refspec_io.specs.Settings.{HasLacking}
use Rattle.refspec_io.specs.Texts.{Given, given_of}
use Rattle.refspec_commands.specs.declared.checking.Answer.{Answer as Checks}
use Rattle.refspec_commands.specs.declared.checking.Question.{Question}
use Rattle.refspec_commands.specs.declared.warnings.Warning.{Warning}
use Rattle.refspec_commands.specs.Warnings.{IsCheck}
use Rattle.refspec_request.specs.declared.arguments.Request.{Request}
use Rattle.refspec_request.specs.declared.choice.Repository.{Repository}
use Rattle.refspec_request.specs.declared.refusal.Refusal.{Refusal}
use Rattle.refspec_request.specs.declared.remotes.OldRemote.{OldRemote}
use Rattle.refspec_request.specs.Choices.{HasNoOldForm, IsOldForm}
use Rattle.refspec_request.specs.Refusals.{refusal_status}
use Rattle.refspec_git.specs.Checking.{AreOldForms, IsAnswered, IsGood, greatest}

-- a text is not both a spec and refused
bad_good : (all : List Checked) → HasBad all → ¬ (AreGood all)
bad_good [] bad good = bad
bad_good (checked.Good text spec ∷ all) bad good = bad_good all bad good
bad_good (checked.Bad text error ∷ all) bad good = good

-- the values are good, or not
pub good_tested : (b : Bool) (values v : List Setting) (a : Checks) (all : List Checked) → v ≡ values
    → all ≡ a.checked.items → MatchBool b (¬ (HasLacking v) × AreGood all) (HasLacking v ⊎ HasBad all)
    → MatchBool b (IsGood values a) (¬ (IsGood values a))
good_tested true values v a all same texts is =
    (subst (λ (l : List Setting). ¬ (HasLacking l)) same is.0, subst AreGood texts is.1)
good_tested false values v a all same texts (inl lacking) = λ good. good.0 (subst HasLacking same lacking)
good_tested false values v a all same texts (inr bad) = λ good. bad_good a.checked.items (subst HasBad texts bad) good.1

-- one more refusal
pub greatest-push : (own : ℕ) (es : List Refusal) (e : Refusal)
    → greatest own (es ++ e ∷ []) ≡ max (greatest own es) (refusal_status e)
greatest-push own [] e = refl
greatest-push own (x ∷ es) e = greatest-push (max own (refusal_status x)) es e

-- the status of the next refusal counts
pub status_next : (own : ℕ) (items : List Refusal) (i status one new : ℕ) (e : Refusal) → i < length items
    → status ≡ greatest own (take i items) → one ≡ refusal_status (get_or items i e) → new ≡ max status one
    → new ≡ greatest own (take (i + 1) items)
status_next own items i status one new e below so_far said is = is ∙ (ap (λ n. max n one) so_far
    ∙ (ap (max (greatest own (take i items))) said
    ∙ sym (ap (greatest own) (take_more items i e below)
    ∙ greatest-push own (take i items) (get_or items i e))))

-- one more remote has a file of its own
pub olds_more : (r : Repository) (seen : List OldRemote) (es : List Refusal) (o : OldRemote) (e : Refusal)
    → AreOldForms r seen es → IsOldForm r o.name.items e → AreOldForms r (seen ++ o ∷ []) (es ++ e ∷ [])
olds_more r [] es o e none is = inr (e, [], is, refl, ap (λ l. l ++ e ∷ []) none)
olds_more r (x ∷ seen) es o e (inl (new, are)) is = inl (new, olds_more r seen es o e are is)
olds_more r (x ∷ seen) es o e (inr (first, rest, old, are, parts)) is =
    inr (first, rest ++ e ∷ [], old, olds_more r seen rest o e are is, ap (λ l. l ++ e ∷ []) parts)

-- one more has none
pub olds_same : (r : Repository) (seen : List OldRemote) (es : List Refusal) (o : OldRemote)
    → AreOldForms r seen es → HasNoOldForm r o.name.items → AreOldForms r (seen ++ o ∷ []) es
olds_same r [] es o none is = inl (is, none)
olds_same r (x ∷ seen) es o (inl (new, are)) is = inl (new, olds_same r seen es o are is)
olds_same r (x ∷ seen) es o (inr (first, rest, old, are, parts)) is =
    inr (first, rest, old, olds_same r seen rest o are is, parts)

-- the answer to this question, and more warnings
pub answered_by : (request : Request) (texts : List Given) (q : Question) (own a : Checks) (more : List Warning)
    → IsCheck q own → map given_of q.texts.now ≡ texts → q.warns ≡ not request.no_warnings → q.form ≡ request.form
    → a.checked ≡ own.checked → a.warnings.items ≡ own.warnings.items ++ more
    → (IsTrue request.no_warnings → more ≡ []) → IsAnswered request texts a
answered_by request texts q own a more answers asked warns form checked warned silent = record {
  question = q;
  own = own;
  more = more;
  asked = asked;
  warns = warns;
  form = form;
  answers = answers;
  checked = checked;
  warned = warned;
  silent = silent;
}
