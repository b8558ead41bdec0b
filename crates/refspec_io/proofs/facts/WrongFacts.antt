-- The wrong bytes of texts in messages and in objects: examples and counterexamples.
use Rattle.std.proofs.Common.{◌≡◌, ◌∙◌, ◌++◌, ℕ, List, [], Bor, Option, None, Some, codes, get_or, length, unwrap_or}
use Rattle.std.proofs.Common.{inl, inr, refl, sym, ap, subst, arith}
use Rattle.std.specs.Fmt.{digits}
use Rattle.std.specs.Str.{chars, is_utf8}
use Rattle.gix_refspec_text.specs.declared.parsing.Operation.{Operation}
use Rattle.gix_refspec_text.specs.declared.parsing.Operation.TheVariants.{Fetch, Push}
use Rattle.gix_refspec_text.specs.declared.parsing.Side.TheVariants.{Source, Destination}
use Rattle.gix_refspec_text.specs.declared.parsing.Span.{Span}
use Rattle.gix_refspec.specs.Specs.Reading.{Negative}
use Rattle.gix_refspec.specs.Specs.Refusal.{Empty, NegativeWithDestination}
use Rattle.gix_refspec.specs.Specs.Span.{AreWrong, HasNoSpan, IsSpan}
use Rattle.gix_refspec_text.proofs.facts.UnreadFacts.{nothing_pushed}
use Rattle.gix_refspec_text.proofs.lemmas.parsing.ReadsLemmas.{refused}
use Rattle.gix_refspec_text.proofs.lemmas.parsing.RefusalLemmas.{one_refusal}
use Rattle.gix_refspec_text.proofs.lemmas.parsing.SpanLemmas.{only_span}
use Rattle.gix_refspec_text.proofs.readers.Readings.{negative_with, parts_of}
use Rattle.refspec_io.specs.declared.blame.Blame.{Blame}
use Rattle.refspec_io.specs.declared.texts.Location.TheVariants as location
use Rattle.refspec_io.specs.declared.texts.Text.{Text}
use Rattle.refspec_io.specs.Json.{ShowsWrong}
use Rattle.refspec_io.specs.Wrong.{IsBlame, IsWrongLine, WritesDetails, WritesWrong}
use Rattle.refspec_io.specs.Wrong.{bytes_in, number_in, side_name, wrong_line}

-- ---- spans as they are shown

-- two bytes of the source, and the destination of a negative spec
abbrev dots : Span
dots = record { side = Source; start = 1; len = 2 }

abbrev pub behind_colon : Span
behind_colon = record { side = Destination; start = 3; len = 1 }

-- sides have their names; bytes are counted from 1
pub shown : (side_name Source ≡ codes "source") × (side_name Destination ≡ codes "destination")
    × (bytes_in (codes "a..b") dots ≡ codes "..") × (bytes_in (codes "^a:b") behind_colon ≡ codes "b")
    × (number_in dots ≡ 2) × (number_in behind_colon ≡ 4)
shown = (refl, refl, refl, refl, refl, refl)

pub lines : (wrong_line (codes "a..b") dots ≡ codes "    The source has \"..\" at byte 2.\n")
    × (wrong_line (codes "^a:b") behind_colon ≡ codes "    The destination has \"b\" at byte 4.\n")
unfolding digits
lines = (refl, refl)

-- ---- the wrong bytes of texts

-- the destination of a negative spec is wrong
pub excluded : (op : Operation) → IsSpan op (codes "^a:b") behind_colon
excluded op = record {
  mode = Negative;
  source = codes "a";
  destination = Some (codes "b");
  parts = parts_of (codes "^a:b");
  word = codes "b";
  index = 0;
  start = refl;
  wrong = record {
    refusal = NegativeWithDestination;
    first = negative_with op (codes "a") (codes "b");
    word = refl;
    concerned = refl;
    wrong = ((λ same. cc), refl, refl);
  };
}

-- no other bytes of it are
other_span : (span : Span) → IsSpan Fetch (codes "^a:b") span → span ≡ behind_colon
other_span = only_span Fetch (codes "^a:b") (Some behind_colon) (excluded Fetch)

-- an empty text for a push is refused, but has no wrong bytes
pub nothing_wrong : HasNoSpan Push []
nothing_wrong span is =
    let here = is.wrong in
    let refusal = refused Push is.mode is.source is.destination [] here.refusal is.parts here.first in
    let same = one_refusal Push [] here.refusal Empty refusal nothing_pushed in
    elim same [
      | inl empty ↦ subst (λ e. AreWrong e is.word is.index span.len) empty here.wrong
      | inr names ↦ let never = names.3 in absurd (cc)
    ]

-- ---- lines

abbrev pub excluded_line : List ℕ
excluded_line = codes "    The destination has \"b\" at byte 4.\n"

pub excluded_wrong : IsWrongLine Fetch (codes "^a:b") excluded_line
excluded_wrong = inl (behind_colon, excluded Fetch, sym lines.1)

-- there is only one such line
pub excluded_line_is : (line : List ℕ) → IsWrongLine Fetch (codes "^a:b") line → line ≡ excluded_line
excluded_line_is line (inl (span, is, same)) = same ∙ (ap (wrong_line (codes "^a:b")) (other_span span is) ∙ lines.1)
excluded_line_is line (inr (none, same)) = absurd (none behind_colon (excluded Fetch))

-- a line on the wrong bytes, and no line if none are wrong
pub wrong_lines : IsWrongLine Fetch (codes "^a:b") excluded_line × IsWrongLine Push [] []
wrong_lines = (excluded_wrong, inr (nothing_wrong, refl))

-- the line isn't left out, and has no other number; and none is made up
pub not_wrong_lines : ¬ (IsWrongLine Fetch (codes "^a:b") [])
    × ¬ (IsWrongLine Fetch (codes "^a:b") (codes "    The destination has \"b\" at byte 3.\n"))
    × ¬ (IsWrongLine Push [] excluded_line)
not_wrong_lines = (left_out, other_number, made_up)
  where
    left_out : ¬ (IsWrongLine Fetch (codes "^a:b") [])
    left_out is = omega (arith, ap length (excluded_line_is _ is))

    other_number : ¬ (IsWrongLine Fetch (codes "^a:b") (codes "    The destination has \"b\" at byte 3.\n"))
    other_number is = omega (arith, ap (λ (l : List ℕ). get_or l 36 0) (excluded_line_is _ is))

    made_up : ¬ (IsWrongLine Push [] excluded_line)
    made_up (inl (span, is, same)) = nothing_wrong span is
    made_up (inr (none, same)) = omega (arith, ap length same)

abbrev bytes : List ℕ → Bor (List ℕ)
bytes x = record { ref_ptr = (0, 0); now = x }

abbrev text : Text
text = record { location = location.Argument 2; operation = Fetch; bytes = bytes (codes "^a:b") }

-- the line is appended, and advice after it
pub written : WritesWrong text (codes "x") (codes "x" ++ excluded_line)
    × WritesDetails text (codes "x") (codes "x" ++ (excluded_line ++ codes "y"))
written = ((excluded_line, excluded_wrong, refl), (excluded_line, codes "y", excluded_wrong, refl))

-- the side, the bytes and their number
abbrev blame : Blame
blame = record { side = bytes (codes "destination"); part = bytes (codes "b"); at = 4 }

pub blamed : IsBlame text blame × ¬ (IsBlame text (record blame { at = 3 }))
blamed = (
  record { span = behind_colon; is_span = excluded Fetch; side = refl; part = refl; number = refl },
  λ is. omega (arith, is.number, ap number_in (other_span is.span is.is_span)),
)

-- ---- objects

pub shows : ShowsWrong Fetch (codes "^a:b") (Some (codes "destination")) (Some (codes "b")) (Some 4)
    × ShowsWrong Push [] None None None
unfolding is_utf8 chars lib.Utf8.encode
shows = (inl (behind_colon, excluded Fetch, (refl, refl, refl)), inr (nothing_wrong, (refl, refl, refl)))

-- nothing is left out, and no other number is shown
pub not_shows : ¬ (ShowsWrong Fetch (codes "^a:b") None None None)
    × ¬ (ShowsWrong Fetch (codes "^a:b") (Some (codes "destination")) (Some (codes "b")) (Some 3))
not_shows = (left_out, other_number)
  where
    left_out : ¬ (ShowsWrong Fetch (codes "^a:b") None None None)
    left_out (inl (span, is, (side, part, index))) = cc
    left_out (inr (none, missing)) = none behind_colon (excluded Fetch)

    other_number : ¬ (ShowsWrong Fetch (codes "^a:b") (Some (codes "destination")) (Some (codes "b")) (Some 3))
    other_number (inl (span, is, (side, part, index))) =
        omega (arith, ap (λ (n : Option ℕ). unwrap_or n 0) index, ap number_in (other_span span is))
    other_number (inr (none, missing)) = none behind_colon (excluded Fetch)
