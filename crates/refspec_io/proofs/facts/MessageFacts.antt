-- Locations and refusals in messages: examples and counterexamples.
use Rattle.std.proofs.Common.{◌≡◌, ◌⊎◌, ◌<◌, ◌≤◌, ℕ, List, [], ◌∷◌, ◌++◌, Bor, inl, inr, codes, get_or, length}
use Rattle.std.proofs.Common.{length-append, refl, sym, ap, ap₂, ◌∙◌, subst, arith}
use Rattle.std.specs.Fmt.{digits}
use Rattle.gix_refspec_text.specs.declared.name.Error.TheVariants.{RepeatedDot}
use Rattle.gix_refspec_text.specs.declared.parsing.Error.{Error}
use Rattle.gix_refspec_text.specs.declared.parsing.Error.TheVariants as error
use Rattle.gix_refspec_text.specs.declared.parsing.Operation.TheVariants.{Fetch, Push}
use Rattle.gix_refspec_text.specs.Specs.Explained.{explained}
use Rattle.gix_refspec_text.proofs.facts.FitFacts.{other_byte}
use Rattle.refspec_io.specs.declared.call.Form.TheVariants as form
use Rattle.refspec_io.specs.declared.checked.Checked.TheVariants as checked
use Rattle.refspec_io.specs.declared.texts.Location.TheVariants as location
use Rattle.refspec_io.specs.declared.texts.Text.{Text}
use Rattle.gix_refspec.specs.Specs.Refusal.{Empty}
use Rattle.gix_refspec_text.proofs.facts.GrammarFacts.{fetches_main}
use Rattle.gix_refspec_text.proofs.facts.UnreadFacts.{nothing_pushed}
use Rattle.refspec_io.specs.Texts.{given_of, argument_at}
use Rattle.refspec_io.proofs.facts.WrongFacts.{excluded_line, excluded_line_is, excluded_wrong, wrong_lines}
use Rattle.refspec_io.specs.Messages.{AreRefusalLines, AreRefusals, AreReportedOf, IsLocation, IsReasonLine}
use Rattle.refspec_io.specs.Messages.{IsReportedOf, IsShownIn, WritesLocation, WritesReason, WritesRefusal, WritesShown}
use Rattle.refspec_io.specs.Messages.{ReportsRefusal, ReportsRefusals}

abbrev text : List ℕ → Bor (List ℕ)
text bytes = record { ref_ptr = (0, 0); now = bytes }

-- a spec by its number, a record by its input and its number, a setting by its file and key
pub locations : IsLocation form.Lines (location.Argument 2) (codes "spec 2")
    × IsLocation form.Lines (location.Record (text (codes "-")) 10) (codes "-:10")
    × IsLocation form.Lines (location.Setting (text (codes "file:c")) (text (codes "remote.o.fetch")))
    (codes "file:c: remote.o.fetch")
unfolding digits
locations = (refl, (codes "-", inl refl, refl), (codes "file:c", codes "remote.o.fetch", inl refl, inl refl, refl))

-- quoted in lines, and raw in records
pub quoted : IsLocation form.Lines (location.Record (text (codes "a\tb")) 1) (codes "\"a\\tb\":1")
    × IsLocation form.Zeros (location.Record (text (codes "a\tb")) 1) (codes "a\tb:1")
unfolding digits
quoted = ((codes "\"a\\tb\"", inr refl, refl), (codes "a\tb", refl, refl))

-- no other number
pub other_number : IsLocation form.Lines (location.Argument 2) (codes "spec 1") → ⊥
unfolding digits
other_number same = omega (arith, ap (λ (l : List ℕ). get_or l 5 0) same)

-- a name is quoted if needed in lines, raw in records, and nothing else
pub shown : IsShownIn form.Lines (codes "a\tb") (codes "\"a\\tb\"")
    × IsShownIn form.Zeros (codes "a\tb") (codes "a\tb") × ¬ (IsShownIn form.Zeros (codes "a\tb") (codes "\"a\\tb\""))
    × ¬ (IsShownIn form.Lines (codes "a\tb") (codes "a b"))
shown = (inr refl, refl, (λ same. omega (arith, ap length same)), other)
  where
    other : ¬ (IsShownIn form.Lines (codes "a\tb") (codes "a b"))
    other (inl same) = omega (arith, ap (λ (l : List ℕ). get_or l 1 0) same)
    other (inr same) = omega (arith, ap length same)

-- a location and a name are appended
pub write : WritesLocation form.Lines (location.Argument 2) (codes "x ") (codes "x spec 2")
    × WritesShown form.Zeros (codes "a\tb") (codes "x ") (codes "x a\tb")
unfolding digits
write = ((codes "spec 2", refl, refl), (codes "a\tb", refl, refl))

pub not_write : ¬ (WritesLocation form.Lines (location.Argument 2) (codes "x") (codes "spec 2"))
    × ¬ (WritesShown form.Zeros (codes "a") (codes "x ") (codes "x "))
not_write = (
  (λ writes. other_byte 0 (codes "spec 2") (codes "x" ++ writes.0) (λ byte. omega (arith, byte)) writes.2),
  λ writes. omega (arith, ap length (writes.2 ∙ ap (λ (s : List ℕ). codes "x " ++ s) writes.1)),
)

-- ---- refusals

-- the second spec among the arguments, and its fault
abbrev dots : Text
dots = record { location = location.Argument 2; operation = Fetch; bytes = text (codes "a..b") }

abbrev fault : Error
fault = error.ReferenceName RepeatedDot

abbrev dots_line : List ℕ
dots_line = codes "spec 2: a..b: A ref name must not have two dots in a row.\n"

reason : IsReasonLine (given_of dots) fault dots_line
unfolding digits
reason = record { at = codes "spec 2"; text = codes "a..b"; is_spot = refl; is_text = inl refl; is = refl }

-- the line has the location, the text and the sentence on the fault
pub reasons : IsReasonLine (given_of dots) fault dots_line
    × IsReasonLine (given_of (record dots { bytes = text (codes "a\t..") })) fault
    (codes "spec 2: \"a\\t..\": A ref name must not have two dots in a row.\n")
unfolding digits
reasons = (
  reason,
  record { at = codes "spec 2"; text = codes "\"a\\t..\""; is_spot = refl; is_text = inr refl; is = refl },
)

-- and no other sentence, location or text
pub no_reasons : ¬ (IsReasonLine (given_of dots) fault (codes "spec 2: a..b: A ref name must not end with a dot.\n"))
    × ¬ (IsReasonLine (given_of dots) fault (codes "spec 1: a..b: A ref name must not have two dots in a row.\n"))
    × ¬ (IsReasonLine (given_of dots) fault (codes "spec 2: a..: A ref name must not have two dots in a row.\n"))
unfolding digits
no_reasons = (other_sentence, other_location, other_text)
  where
    begins : (line : List ℕ) → IsReasonLine (given_of dots) fault line → (line ≡ dots_line)
        ⊎ (line ≡ codes "spec 2: \"a..b\": A ref name must not have two dots in a row.\n")
    begins line is = elim is.is_text [
      | inl plain ↦ inl (is.is
          ∙ ap₂ (λ (at t : List ℕ). at ++ (codes ": " ++ (t ++ (codes ": " ++ (explained fault ++ (10 ∷ []))))))
          is.is_spot plain)
      | inr quoted ↦ inr (is.is
          ∙ ap₂ (λ (at t : List ℕ). at ++ (codes ": " ++ (t ++ (codes ": " ++ (explained fault ++ (10 ∷ []))))))
          is.is_spot quoted)
    ]

    other_sentence :
        ¬ (IsReasonLine (given_of dots) fault (codes "spec 2: a..b: A ref name must not end with a dot.\n"))
    other_sentence is = elim (begins _ is) [
      | inl same ↦ omega (arith, ap length same)
      | inr same ↦ omega (
        arith,
        ap length same,
      )
    ]

    other_location :
        ¬ (IsReasonLine (given_of dots) fault (codes "spec 1: a..b: A ref name must not have two dots in a row.\n"))
    other_location is = elim (begins _ is) [
      | inl same ↦ omega (arith, ap (λ (l : List ℕ). get_or l 5 0) same)
      | inr same ↦ omega (arith, ap (λ (l : List ℕ). get_or l 5 0) same)
    ]

    other_text : ¬
        (IsReasonLine (given_of dots) fault (codes "spec 2: a..: A ref name must not have two dots in a row.\n"))
    other_text is = elim (begins _ is) [
      | inl same ↦ omega (arith, ap length same)
      | inr same ↦ omega (
        arith,
        ap length same,
      )
    ]

-- a negative spec with a destination, all of which is wrong
abbrev excludes : Text
excludes = record { location = location.Argument 2; operation = Fetch; bytes = text (codes "^a:b") }

abbrev with_destination : Error
with_destination = error.NegativeWithDestination

abbrev excludes_line : List ℕ
excludes_line = codes "spec 2: ^a:b: A refspec that begins with `^` must not have a destination.\n"

excludes_reason : IsReasonLine (given_of excludes) with_destination excludes_line
unfolding digits
excludes_reason = record { at = codes "spec 2"; text = codes "^a:b"; is_spot = refl; is_text = inl refl; is = refl }

-- the line on the reason, the line on the wrong bytes, and advice
abbrev both_lines : (advice : List ℕ) → List ℕ
both_lines advice = excludes_line ++ (excluded_line ++ advice)

pub refusal_lines : (advice : List ℕ) → AreRefusalLines (given_of excludes) with_destination (both_lines advice)
refusal_lines advice = record {
  reason = excludes_line;
  wrong = excluded_line;
  advice = advice;
  is_reason = excludes_reason;
  is_wrong = excluded_wrong;
  are = refl;
}

-- the lines are appended; they are reported in lines and with records
pub refused : WritesReason dots fault (codes "x\n") (codes "x\n" ++ dots_line)
    × WritesRefusal excludes with_destination [] (both_lines [])
    × ReportsRefusal form.Lines excludes with_destination [] (both_lines (codes "    Leave it out.\n"))
    × ReportsRefusal form.Zeros excludes with_destination [] (both_lines [])
refused = (
  (dots_line, reason, refl),
  (_, refusal_lines [], refl),
  (_, refusal_lines (codes "    Leave it out.\n"), refl),
  (_, refusal_lines [], refl),
)

pub not_refused : ¬ (WritesReason dots fault (codes "x\n") (codes "x\n"))
    × ¬ (ReportsRefusal form.Lines dots fault (codes "x\n") (codes "x\n"))
    × ¬ (ReportsRefusal form.Zeros dots fault [] [])
    × ¬ (ReportsRefusal form.Lines excludes with_destination [] excludes_line)
unfolding digits
not_refused = (
  (λ writes. omega (arith, ap length writes.2, long writes.0 writes.1)),
  (λ reports. omega (arith, ap length reports.2, length-append (codes "x\n") reports.0, all_long reports.0 reports.1)),
  (λ reports. omega (arith, ap length reports.2, all_long reports.0 reports.1)),
  λ reports. wrong_left_out reports.0 reports.1 reports.2,
)
  where
    long : (line : List ℕ) → IsReasonLine (given_of dots) fault line → 0 < length line
    long line is = omega (
      arith,
      ap length is.is,
      length-append is.at (codes ": " ++ (is.text ++ (codes ": " ++ (explained fault ++ (10 ∷ []))))),
    )

    all_long : (lines : List ℕ) → AreRefusalLines (given_of dots) fault lines → 0 < length lines
    all_long lines are = omega (
      arith,
      ap length are.are,
      length-append are.reason (are.wrong ++ are.advice),
      long are.reason are.is_reason,
    )

    reason_long : (line : List ℕ) → IsReasonLine (given_of excludes) with_destination line
        → length excludes_line ≤ length line
    reason_long line is =
        let end = codes ": " ++ (explained with_destination ++ (10 ∷ [])) in
        let whole = λ (at t : List ℕ). at ++ (codes ": " ++ (t ++ end)) in
        elim is.is_text [
          | inl plain ↦ omega (arith, ap length (is.is ∙ ap₂ whole is.is_spot plain))
          | inr quoted ↦ omega (arith, ap length (is.is ∙ ap₂ whole is.is_spot quoted))
        ]

    -- the line on the reason isn't all, as there is one on the wrong bytes
    wrong_left_out : (lines : List ℕ) → AreRefusalLines (given_of excludes) with_destination lines
        → excludes_line ≡ lines → ⊥
    wrong_left_out lines are same = omega (
      arith,
      ap length (same ∙ are.are),
      length-append are.reason (are.wrong ++ are.advice),
      length-append are.wrong are.advice,
      ap length (excluded_line_is are.wrong are.is_wrong),
      reason_long are.reason are.is_reason,
    )

-- ---- the refusals of a run

-- a refused text is reported, and in JSON not as a message
pub reported :
    ReportsRefusals form.Lines (checked.Bad excludes with_destination ∷ []) (codes "x\n") (codes "x\n" ++ both_lines [])
    × ReportsRefusals form.Json (checked.Bad dots fault ∷ []) (codes "x\n") (codes "x\n")
    × ReportsRefusals form.Lines [] (codes "x\n") (codes "x\n")
reported = ((_, (_, refusal_lines [], refl), refl), (codes "x\n", refl, refl), refl)

-- no refused text is left out, and nothing else is reported
pub not_reported : ¬ (ReportsRefusals form.Lines (checked.Bad dots fault ∷ []) [] [])
    × ¬ (ReportsRefusals form.Json (checked.Bad dots fault ∷ []) [] dots_line)
    × ¬ (ReportsRefusals form.Lines [] [] dots_line)
not_reported = (
  (λ reports. not_refused.2 (subst (ReportsRefusal form.Lines dots fault []) (sym reports.2) reports.1)),
  (λ reports. omega (arith, ap length (reports.2 ∙ reports.1))),
  λ same. omega (arith, ap length same),
)

-- the line on an empty text in a push, which is refused
abbrev nothing_line : List ℕ
nothing_line = codes "spec 1" ++ (codes ": " ++ (codes "\"\"" ++ (codes ": " ++ (explained error.Empty ++ (10 ∷ [])))))

nothing_reported : IsReportedOf (argument_at Push 1 []) nothing_line
unfolding digits
nothing_reported = inl (
  error.Empty,
  (Empty, refl, nothing_pushed),
  record {
    reason = nothing_line;
    wrong = [];
    advice = [];
    is_reason = record { at = codes "spec 1"; text = codes "\"\""; is_spot = refl; is_text = inr refl; is = refl };
    is_wrong = wrong_lines.1;
    are = refl;
  },
)

-- there is a line on a refused text, and none on a spec
pub reported_of : IsReportedOf (argument_at Push 1 []) nothing_line × IsReportedOf (argument_at Fetch 2 (codes "main"))
    []
    × AreReportedOf (argument_at Push 1 [] ∷ argument_at Fetch 2 (codes "main") ∷ []) nothing_line
reported_of = (
  nothing_reported,
  inr (_, fetches_main.0, refl),
  (nothing_line, [], nothing_reported, ([], [], inr (_, fetches_main.0, refl), refl, refl), refl),
)

-- a refused text isn't skipped
pub not_reported_of : ¬ (IsReportedOf (argument_at Push 1 []) []) × ¬ (AreReportedOf [] nothing_line)
not_reported_of = (passed_over, λ same. omega (arith, ap length same))
  where
    passed_over : ¬ (IsReportedOf (argument_at Push 1 []) [])
    passed_over (inl (e, is, are)) =
        let reason = are.is_reason in
        let end = codes ": " ++ (explained e ++ (10 ∷ [])) in
        omega (
          arith,
          ap length are.are,
          length-append are.reason (are.wrong ++ are.advice),
          ap length reason.is,
          length-append reason.at (codes ": " ++ (reason.text ++ end)),
        )
    passed_over (inr (r, reads, same)) = nothing_pushed.unread r reads

-- in JSON refusals aren't messages
pub refusals : AreRefusals form.Json (argument_at Push 1 [] ∷ []) [] × AreRefusals form.Lines
    (argument_at Push 1 [] ∷ []) (nothing_line ++ [])
    × ¬ (AreRefusals form.Json (argument_at Push 1 [] ∷ []) nothing_line)
refusals = (refl, (nothing_line, [], nothing_reported, refl, refl), λ same. omega (arith, ap length same))
