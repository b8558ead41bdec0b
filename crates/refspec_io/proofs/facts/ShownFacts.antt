-- Names as shown, with and without quotes, and how they are written.
use Rattle.std.proofs.Common.{◌≡◌, ℕ, List, [], ◌∷◌, ◌++◌, inl, inr, codes, get_or, length, refl, sym, ap, ◌∙◌, subst}
use Rattle.std.proofs.Common.{arith}
use Rattle.gix_refspec_text.proofs.facts.FitFacts.{other_byte}
use Rattle.refspec_io.specs.declared.call.Form.{Form}
use Rattle.refspec_io.specs.declared.call.Form.TheVariants as form
use Rattle.refspec_io.specs.declared.report.Report.{Report}
use Rattle.refspec_io.specs.Shown.{AddsNames, AreLines, Grows, IsQuoted, KeepsReport, KeepsResults, WritesQuoted}
use Rattle.refspec_io.specs.Shown.{escaped, zero_ended}

-- printable ASCII stands for itself, and every other byte is a backslash and three octal digits
pub bytes : (escaped 0 ≡ codes "\\000") × (escaped 31 ≡ codes "\\037") × (escaped 32 ≡ codes " ")
    × (escaped 126 ≡ codes "~") × (escaped 127 ≡ codes "\\177") × (escaped 233 ≡ codes "\\351")
    × (escaped 255 ≡ codes "\\377")
bytes = (refl, refl, refl, refl, refl, refl, refl)

-- the bytes that have a letter, and the bytes next to them
pub letters : (escaped 6 ≡ codes "\\006") × (escaped 7 ≡ codes "\\a") × (escaped 8 ≡ codes "\\b")
    × (escaped 9 ≡ codes "\\t") × (escaped 10 ≡ codes "\\n") × (escaped 11 ≡ codes "\\v") × (escaped 12 ≡ codes "\\f")
    × (escaped 13 ≡ codes "\\r") × (escaped 14 ≡ codes "\\016")
letters = (refl, refl, refl, refl, refl, refl, refl, refl, refl)

-- a quote, a backslash, and the bytes next to them
pub quotes : (escaped 33 ≡ codes "!") × (escaped 34 ≡ codes "\\\"") × (escaped 35 ≡ codes "#")
    × (escaped 91 ≡ codes "[") × (escaped 92 ≡ codes "\\\\") × (escaped 93 ≡ codes "]")
quotes = (refl, refl, refl, refl, refl, refl)

-- a name as it is, and in quotes
pub seen : IsQuoted (codes "a") (codes "a") × IsQuoted (codes "a\tb") (codes "\"a\\tb\"")
    × IsQuoted (codes "") (codes "\"\"")
seen = (inl refl, inr refl, inr refl)

-- not another name in quotes, and not a byte without its escape
pub unseen : ¬ (IsQuoted (codes "a") (codes "\"b\"")) × ¬ (IsQuoted (codes "a\t") (codes "\"a\t\""))
unseen = (other, raw)
  where
    other : IsQuoted (codes "a") (codes "\"b\"") → ⊥
    other (inl same) = absurd (omega (arith, ap (λ (l : List ℕ). get_or l 0 0) same))
    other (inr same) = absurd (omega (arith, ap (λ (l : List ℕ). get_or l 1 0) same))

    raw : IsQuoted (codes "a\t") (codes "\"a\t\"") → ⊥
    raw (inl same) = absurd (omega (arith, ap (λ (l : List ℕ). get_or l 0 0) same))
    raw (inr same) = absurd (omega (arith, ap (λ (l : List ℕ). get_or l 2 0) same))

-- ---- lists of names

-- a line for each name, with the bytes before it
pub lines : AreLines (codes "ref-prefix ") (codes "refs/heads/" ∷ codes "HEAD" ∷ [])
    (codes "ref-prefix refs/heads/\nref-prefix HEAD\n")
    × AreLines [] (codes "a\tb" ∷ []) (codes "\"a\\tb\"\n") × AreLines (codes "x ") [] []
lines = (
  (codes "refs/heads/", codes "ref-prefix HEAD\n", inl refl, (codes "HEAD", [], inl refl, refl, refl), refl),
  (codes "\"a\\tb\"", [], inr refl, refl, refl),
  refl,
)

-- no line lacks its newline or the bytes before it, no name is left out, and the order doesn't change
pub no_lines : ¬ (AreLines [] (codes "a" ∷ []) (codes "a")) × ¬ (AreLines (codes "x ") (codes "a" ∷ []) (codes "a\n"))
    × ¬ (AreLines [] (codes "a" ∷ []) []) × ¬ (AreLines [] (codes "a" ∷ codes "b" ∷ []) (codes "b\na\n"))
no_lines = (
  (λ are. begun (codes "a") are (λ rest same. omega (arith, ap length same)) (λ byte. omega (arith, byte))),
  (λ are. other_byte 0 (codes "a\n") (codes "x " ++ (are.0 ++ (10 ∷ are.1))) (λ byte. omega (arith, byte)) are.4),
  (λ are. begun [] are (λ rest same. omega (arith, ap length same)) (λ byte. omega (arith, byte))),
  second,
)
  where
    begun : (line : List ℕ) → AreLines [] (codes "a" ∷ []) line → ((rest : List ℕ) → ¬ (line ≡ codes "a\n" ++ rest))
        → ¬ (get_or line 0 0 ≡ 34) → ⊥
    begun line (shown, rest, inl is, none, same) plain quoted =
        plain rest (same ∙ ap (λ (s : List ℕ). s ++ (10 ∷ rest)) is)
    begun line (shown, rest, inr is, none, same) plain quoted =
        quoted (ap (λ (l : List ℕ). get_or l 0 0) (same ∙ ap (λ (s : List ℕ). s ++ (10 ∷ rest)) is))

    second : ¬ (AreLines [] (codes "a" ∷ codes "b" ∷ []) (codes "b\na\n"))
    second (shown, rest, inl is, more, same) =
        other_byte 0 (codes "b\na\n") (codes "a\n" ++ rest) (λ byte. omega (arith, byte)) (same
        ∙ ap (λ (s : List ℕ). s ++ (10 ∷ rest)) is)
    second (shown, rest, inr is, more, same) =
        omega (arith, ap (λ (l : List ℕ). get_or l 0 0) (same ∙ ap (λ (s : List ℕ). s ++ (10 ∷ rest)) is))

-- in records names are raw, ended by zero bytes, with nothing before them
pub names : (zero_ended (codes "a\tb") ≡ 97 ∷ 9 ∷ 98 ∷ 0 ∷ [])
    × AddsNames form.Lines (codes "x ") (codes "a" ∷ []) (codes "y\n") (codes "y\nx a\n")
    × AddsNames form.Zeros (codes "x ") (codes "a\tb" ∷ codes "c" ∷ []) [] (97 ∷ 9 ∷ 98 ∷ 0 ∷ 99 ∷ 0 ∷ [])
names = (refl, (codes "x a\n", (codes "a", [], inl refl, refl, refl), refl), refl)

pub other_names : ¬ (AddsNames form.Zeros (codes "x ") (codes "a" ∷ []) [] (codes "x a" ++ 0 ∷ []))
    × ¬ (AddsNames form.Zeros [] (codes "a\tb" ∷ []) [] (codes "\"a\\tb\"" ++ 0 ∷ []))
    × ¬ (AddsNames form.Zeros [] (codes "a" ∷ []) [] (codes "a\n"))
    × ¬ (AddsNames form.Lines [] (codes "a" ∷ []) [] (codes "a" ++ 0 ∷ []))
other_names = (
  (λ same. omega (arith, ap length same)),
  (λ same. omega (arith, ap length same)),
  (λ same. omega (arith, ap (λ (l : List ℕ). get_or l 1 0) same)),
  zero,
)
  where
    zero : ¬ (AddsNames form.Lines [] (codes "a" ∷ []) [] (codes "a" ++ 0 ∷ []))
    zero (l, (shown, rest, inl is, none, all), same) =
        omega (arith, ap (λ (l : List ℕ). get_or l 1 0) (same ∙ (all ∙ ap (λ (s : List ℕ). s ++ (10 ∷ rest)) is)))
    zero (l, (shown, rest, inr is, none, all), same) =
        omega (arith, ap (λ (l : List ℕ). get_or l 0 0) (same ∙ (all ∙ ap (λ (s : List ℕ). s ++ (10 ∷ rest)) is)))

-- ---- results that grow or stay

pub kept : KeepsResults form.Lines (codes "a\n") (codes "a\n") × KeepsResults form.Zeros [] []
    × ¬ (KeepsResults form.Lines [] (codes "a\n")) × ¬ (KeepsResults form.Zeros [] (0 ∷ []))
    × ¬ (KeepsResults form.Lines (codes "a\n") [])
kept = (
  refl,
  refl,
  (λ same. omega (arith, ap length same)),
  (λ same. omega (arith, ap length same)),
  λ same. omega (arith, ap length same),
)

-- a report keeps its form and, in lines, its results
pub reports : (p q : Report) → p.form ≡ form.Lines → q.form ≡ form.Lines → p.results.items ≡ codes "a"
    → (q.results.items ≡ codes "a" → KeepsReport p q)
    × (q.results.items ≡ codes "ab" → ¬ (KeepsReport p q))
reports p q is also a = (
  (λ same. record {
    form = also
        ∙ sym is;
    kept = subst (λ (f : Form). KeepsResults f p.results.items q.results.items) (sym is) (same ∙ sym a);
  }),
  λ other keeps. let same : q.results.items ≡ p.results.items =
      subst (λ (f : Form). KeepsResults f p.results.items q.results.items) is keeps.kept in omega (
        arith,
        ap length (sym other ∙ (same ∙ a)),
      ),
)

pub other_form : (p q : Report) → p.form ≡ form.Lines → q.form ≡ form.Zeros → ¬ (KeepsReport p q)
other_form p q is other keeps = let same : form.Zeros ≡ form.Lines = sym other ∙ (keeps.form ∙ is) in cc

-- what is written is appended
pub write : WritesQuoted (codes "a\t") (codes "x ") (codes "x \"a\\t\"") × WritesQuoted (codes "a") [] (codes "a")
    × ¬ (WritesQuoted (codes "a") (codes "x") (codes "a")) × Grows (codes "a") (codes "ab") × Grows [] []
    × ¬ (Grows (codes "a") (codes "b")) × ¬ (Grows (codes "a") [])
write = (
  (codes "\"a\\t\"", inr refl, refl),
  (codes "a", inl refl, refl),
  (λ writes. other_byte 0 (codes "a") (codes "x" ++ writes.0) (λ byte. omega (arith, byte)) writes.2),
  (codes "b", refl),
  ([], refl),
  (λ grown. other_byte 0 (codes "b") (codes "a" ++ grown.0) (λ byte. omega (arith, byte)) grown.1),
  λ grown. omega (arith, ap length grown.1),
)
