-- The message on a refused text.
use Rattle.std.proofs.Common.{◌≡◌, ℕ, ◌+◌, ◌<◌, ◌≤◌, List, [], ◌∷◌, ◌++◌, codes, length, map, take, take_all, get_or}
use Rattle.std.proofs.Common.{inl, inr, refl, sym, ap, ◌∙◌, subst, append_assoc}
use Rattle.std.proofs.lemmas.List.{append-nil, take_more}
use Rattle.std.specs.List.{AllZip}
use Rattle.gix_refspec_text.specs.declared.parsing.Error.{Error}
use Rattle.gix_refspec_text.specs.Specs.Explained.{explained}
use Rattle.gix_refspec.specs.Views.Spec.{reading_of}
use Rattle.gix_refspec_text.specs.declared.spec.RefSpecRef.{RefSpecRef}
use Rattle.refspec_io.specs.declared.call.Form.{Form}
use Rattle.refspec_io.specs.declared.call.Form.TheVariants as form
use Rattle.refspec_io.specs.declared.checked.Checked.{Checked}
use Rattle.refspec_io.specs.declared.checked.Checked.TheVariants as checked
use Rattle.refspec_io.specs.declared.texts.Text.{Text}
use Rattle.refspec_io.specs.Messages.{AreRefusals, AreReportedOf, WritesLocation, WritesReason, WritesRefusal}
use Rattle.refspec_io.specs.Messages.{ReportsRefusal, ReportsRefusals}
use Rattle.refspec_io.specs.Read.{IsChecked}
use Rattle.refspec_io.specs.Shown.{WritesQuoted}
use Rattle.refspec_io.specs.Texts.{given_of}
use Rattle.refspec_io.specs.Wrong.{WritesDetails}
use Rattle.refspec_io.proofs.ShownLemmas.{behind}

-- the location, the text and the reason, in order
pub WritesReason-of : (t : Text) (e : Error) (sentence old a b c d f new : List ℕ)
    → WritesLocation form.Lines t.location old a → b ≡ a ++ codes ": " → WritesQuoted t.bytes.now b c
    → d ≡ c ++ codes ": " → sentence ≡ explained e → f ≡ d ++ sentence → new ≡ f ++ 10 ∷ [] → WritesReason t e old new
WritesReason-of t e sentence old a b c d f new where_ one what two why three end =
    let to_b : b ≡ old ++ (where_.0 ++ codes ": ") = behind old where_.0 a (codes ": ") b where_.2 one in
    let to_c : c ≡ old ++ ((where_.0 ++ codes ": ") ++ what.0) = behind old (where_.0 ++ codes ": ") b what.0 c to_b
    what.2 in
    let to_d : d ≡ old ++ (((where_.0 ++ codes ": ") ++ what.0) ++ codes ": ") =
    behind old ((where_.0 ++ codes ": ") ++ what.0) c (codes ": ") d to_c two in
    let to_f : f ≡ old ++ ((((where_.0 ++ codes ": ") ++ what.0) ++ codes ": ") ++ explained e) =
    behind old (((where_.0 ++ codes ": ") ++ what.0) ++ codes ": ") d (explained e) f to_d
    (three ∙ ap (λ l. d ++ l) why) in
    let to_new : new ≡ old ++ (((((where_.0 ++ codes ": ") ++ what.0) ++ codes ": ") ++ explained e) ++ 10 ∷ []) =
    behind old ((((where_.0 ++ codes ": ") ++ what.0) ++ codes ": ") ++ explained e) f (10 ∷ []) new to_f end in
    let line = where_.0 ++ (codes ": " ++ (what.0 ++ (codes ": " ++ (explained e ++ 10 ∷ [])))) in
    let same : ((((where_.0 ++ codes ": ") ++ what.0) ++ codes ": ") ++ explained e) ++ 10 ∷ [] ≡ line =
    append_assoc (((where_.0 ++ codes ": ") ++ what.0) ++ codes ": ") (explained e) (10 ∷ [])
    ∙ (append_assoc ((where_.0 ++ codes ": ") ++ what.0) (codes ": ") (explained e ++ 10 ∷ [])
    ∙ (append_assoc (where_.0 ++ codes ": ") what.0 (codes ": " ++ (explained e ++ 10 ∷ []))
    ∙ append_assoc where_.0 (codes ": ") (what.0 ++ (codes ": " ++ (explained e ++ 10 ∷ []))))) in (
      line,
      record { at = where_.0; text = what.0; is_spot = where_.1; is_text = what.1; is = refl },
      to_new
          ∙ ap (λ l. old ++ l) same,
    )

-- the first line of a refusal, and then the others
pub WritesRefusal-of : (t : Text) (e : Error) (old mid new : List ℕ)
    → WritesReason t e old mid → WritesDetails t mid new → WritesRefusal t e old new
WritesRefusal-of t e old mid new (line, reason, first) (wrong, advice, is_wrong, rest) = (
  line ++ (wrong ++ advice),
  record { reason = line; wrong = wrong; advice = advice; is_reason = reason; is_wrong = is_wrong; are = refl },
  behind old line mid (wrong ++ advice) new first rest,
)

-- the refusals of some texts, and then those of others
ReportsRefusals-append : (f : Form) (xs ys : List Checked) (old mid new : List ℕ) → ReportsRefusals f xs old mid
    → ReportsRefusals f ys mid new → ReportsRefusals f (xs ++ ys) old new
ReportsRefusals-append f [] ys old mid new a b = subst (λ (x : List ℕ). ReportsRefusals f ys x new) a b
ReportsRefusals-append f (checked.Good text spec ∷ xs) ys old mid new a b = ReportsRefusals-append f xs ys old mid new a
    b
ReportsRefusals-append f (checked.Bad text error ∷ xs) ys old mid new a b =
    (a.0, a.1, ReportsRefusals-append f xs ys a.0 mid new a.2 b)

-- one more text
pub ReportsRefusals-next : (f g : Form) (xs : List Checked) (i : ℕ) (y : Checked) (old mid new : List ℕ) → i < length xs
    → g ≡ f → y ≡ get_or xs i y → ReportsRefusals f (take i xs) old mid → ReportsRefusals g (y ∷ []) mid new
    → ReportsRefusals f (take (i + 1) xs) old new
ReportsRefusals-next f g xs i y old mid new below same is a b =
    let step : take (i + 1) xs ≡ take i xs ++ y ∷ [] = take_more xs i y below ∙ ap (λ z. take i xs ++ z ∷ [])
    (sym is) in
    subst (λ (l : List Checked). ReportsRefusals f l old new) (sym step)
    (ReportsRefusals-append f (take i xs) (y ∷ []) old mid new a
    (subst (λ (x : Form). ReportsRefusals x (y ∷ []) mid new) same b))

-- all texts
pub ReportsRefusals-all : (f : Form) (xs : List Checked) (i : ℕ) (old new : List ℕ) → length xs ≤ i
    → ReportsRefusals f (take i xs) old new → ReportsRefusals f xs old new
ReportsRefusals-all f xs i old new long so_far = subst (λ (l : List Checked). ReportsRefusals f l old new)
    (take_all i xs long) so_far

-- the lines on the checked texts are those on the texts
reported_lines : (f : Form) → ((t : Text) (e : Error) (old new : List ℕ) → ReportsRefusal f t e old new
    → WritesRefusal t e old new) → (texts : List Text) (all : List Checked) (old new : List ℕ)
    → AllZip IsChecked texts all → ReportsRefusals f all old new → (lines : List ℕ)
    × AreReportedOf (map given_of texts) lines × (new ≡ old ++ lines)
reported_lines f writes [] [] old new is reported = ([], refl, reported ∙ sym (append-nil old))
reported_lines f writes [] (c ∷ all) old new is reported = absurd is
reported_lines f writes (t ∷ texts) [] old new is reported = absurd is
reported_lines f writes (t ∷ texts) (checked.Good text spec ∷ all) old new is reported =
    let rest = reported_lines f writes texts all old new is.1 reported in
    (rest.0, ([], rest.0, inr (reading_of spec, is.0.1, refl), rest.1, refl), rest.2)
reported_lines f writes (t ∷ texts) (checked.Bad text error ∷ all) old new is reported =
    let write = subst (λ (x : Text). WritesRefusal x error old reported.0) is.0.0
    (writes text error old reported.0 reported.1) in
    let rest = reported_lines f writes texts all reported.0 new is.1 reported.2 in
    let one = write.0 in (
      one ++ rest.0,
      (one, rest.0, inl (error, is.0.1, write.1), rest.1, refl),
      behind old one reported.0 rest.0 new write.2 rest.2,
    )

-- in JSON there is no message
none_reported : (all : List Checked) (old new : List ℕ) → ReportsRefusals form.Json all old new → new ≡ old
none_reported [] old new reported = reported
none_reported (checked.Good text spec ∷ all) old new reported = none_reported all old new reported
none_reported (checked.Bad text error ∷ all) old new reported = none_reported all reported.0 new reported.2 ∙ reported.1

-- if there was no message before, the messages are the refusals
pub AreRefusals-of : (f : Form) (texts : List Text) (all : List Checked) (old new : List ℕ) → AllZip IsChecked texts all
    → old ≡ [] → ReportsRefusals f all old new → AreRefusals f (map given_of texts) new
AreRefusals-of form.Lines texts all old new is none reported =
    let lines = reported_lines form.Lines (λ t e a b write. write) texts all old new is reported in
    subst (AreReportedOf (map given_of texts)) (sym (lines.2 ∙ ap (λ l. l ++ lines.0) none)) lines.1
AreRefusals-of form.Zeros texts all old new is none reported =
    let lines = reported_lines form.Zeros (λ t e a b write. write) texts all old new is reported in
    subst (AreReportedOf (map given_of texts)) (sym (lines.2 ∙ ap (λ l. l ++ lines.0) none)) lines.1
AreRefusals-of form.Json texts all old new is none reported = none_reported all old new reported ∙ none
