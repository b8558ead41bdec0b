-- Rows of mappings, in lines and ended by zero bytes, as in runs of `track`.
use Rattle.std.proofs.Common.{◌≡◌, ◌⊎◌, ◌≤◌, ◌+◌, ℕ, List, [], ◌∷◌, ◌++◌, None, Some, inl, inr, codes, get_or, length}
use Rattle.std.proofs.Common.{length-append, replicate, refl, ap, ◌∙◌, arith}
use Rattle.gix_refspec.specs.Matching.Mappings.{Mapped, id, name}
use Rattle.gix_refspec_match.proofs.facts.MatchFacts.{mapping}
use Rattle.gix_refspec_text.proofs.facts.FitFacts.{every, other_byte, short}
use Rattle.gix_refspec_text.proofs.facts.ObjectIdFacts.{empty_blob, lower_of-empty_blob}
use Rattle.refspec_io.specs.declared.call.Form.TheVariants as form
use Rattle.refspec_io.specs.Shown.{IsQuoted, in_quotes}
use Rattle.refspec_io.specs.Rows.{AddsMappings, AreSpecTexts, AreRowLines, IsCell, IsLine, WritesCell, WritesLine, Row}
use Rattle.refspec_io.specs.Rows.{fields, row_of, source_text}
use Rattle.std.proofs.lemmas.Option.{same_Some}

-- ---- texts

-- each spec has its canonical text, in order
pub spec_texts : AreSpecTexts (every ∷ short ∷ []) (codes "+refs/heads/*:refs/remotes/origin/*" ∷ codes "main" ∷ [])
    × ¬ (AreSpecTexts (every ∷ []) (codes "refs/heads/*:refs/remotes/origin/*" ∷ []))
    × ¬ (AreSpecTexts (every ∷ short ∷ []) (codes "+refs/heads/*:refs/remotes/origin/*" ∷ []))
    × ¬ (AreSpecTexts [] (codes "main" ∷ []))
spec_texts = (
  (refl, (refl, tt)),
  (λ are. other_byte 0 (codes "+refs/heads/*:refs/remotes/origin/*") (codes "refs/heads/*:refs/remotes/origin/*")
      (λ byte. omega (arith, byte)) (same_Some _ _ are.0)),
  (λ are. are.1),
  λ are. are,
)

-- a source is its name, or its id in lower-case hex
pub sources : (source_text (name (codes "refs/heads/A")) ≡ codes "refs/heads/A")
    × (source_text (id empty_blob) ≡ codes "e69de29bb2d1d6434b8b29ae775ad8c2e48c5391")
sources = (refl, lower_of-empty_blob)

-- ---- rows

-- a mapping of the second of two specs, and one of the first, without a destination
abbrev to_o : Mapped
to_o = mapping 0 (codes "refs/heads/main") (Some (codes "refs/remotes/o/main")) 1

abbrev pub alone : Mapped
alone = mapping 0 (codes "HEAD") None 0

abbrev pub texts : List (List ℕ)
texts = codes "HEAD" ∷ codes "refs/heads/*:refs/remotes/o/*" ∷ []

-- the destination, the source, and the text of the mapping's own spec
pub rows : (row_of [] texts to_o ≡ record {
  destination = codes "refs/remotes/o/main";
  source = codes "refs/heads/main";
  spec = codes "refs/heads/*:refs/remotes/o/*";
})
    × ((row_of [] texts alone).spec ≡ codes "HEAD")
rows = (refl, refl)

-- only a missing destination is replaced
pub missing : ((row_of (codes "FETCH_HEAD") texts alone).destination ≡ codes "FETCH_HEAD")
    × ((row_of [] texts alone).destination ≡ [])
    × ((row_of (codes "FETCH_HEAD") texts to_o).destination ≡ codes "refs/remotes/o/main")
missing = (refl, refl, refl)

-- ---- lines

-- two or more spaces are after a field, and a field with a tab is quoted
pub cells : IsCell (codes "HEAD") (codes "HEAD  ") × IsCell (codes "HEAD") (codes "HEAD     ")
    × IsCell (codes "a\tb") (codes "\"a\\tb\"  ") × WritesCell (codes "b") (codes "a  ") (codes "a  b  ")
cells = (
  (codes "HEAD", 0, inl refl, refl),
  (codes "HEAD", 3, inl refl, refl),
  (codes "\"a\\tb\"", 0, inr refl, refl),
  (codes "b  ", (codes "b", 0, inl refl, refl), refl),
)

-- one space isn't enough, nor is a tab
pub no_cells : ¬ (IsCell (codes "HEAD") (codes "HEAD ")) × ¬ (IsCell (codes "HEAD") (codes "HEAD\t "))
    × ¬ (WritesCell (codes "b") (codes "a") (codes "b  "))
no_cells = (
  one_space,
  a_tab,
  λ writes. other_byte 0 (codes "b  ") (codes "a" ++ writes.0) (λ byte. omega (arith, byte)) writes.2,
)
  where
    one_space : ¬ (IsCell (codes "HEAD") (codes "HEAD "))
    one_space (shown, more, inl is, same) =
        omega (arith, ap length (same ∙ ap (λ (s : List ℕ). s ++ (32 ∷ 32 ∷ replicate more 32)) is))
    one_space (shown, more, inr is, same) = other_byte 0 (codes "HEAD ") (34 ∷ _) (λ byte. omega (arith, byte)) (same
        ∙ ap (λ (s : List ℕ). s ++ (32 ∷ 32 ∷ replicate more 32)) is)

    a_tab : ¬ (IsCell (codes "HEAD") (codes "HEAD\t "))
    a_tab (shown, more, inl is, same) =
        other_byte 4 (codes "HEAD\t ") (codes "HEAD" ++ (32 ∷ 32 ∷ replicate more 32)) (λ byte. omega (
          arith,
          byte,
        )) (same ∙ ap (λ (s : List ℕ). s ++ (32 ∷ 32 ∷ replicate more 32)) is)
    a_tab (shown, more, inr is, same) = other_byte 0 (codes "HEAD\t ") (34 ∷ _) (λ byte. omega (arith, byte)) (same
        ∙ ap (λ (s : List ℕ). s ++ (32 ∷ 32 ∷ replicate more 32)) is)

abbrev row : Row
row = record {
  destination = codes "refs/remotes/o/a";
  source = codes "refs/heads/a";
  spec = codes "refs/heads/*:refs/remotes/o/*";
}

-- a row as `track` prints it in a table with longer ones
pub line : IsLine row (codes "refs/remotes/o/a       refs/heads/a       refs/heads/*:refs/remotes/o/*\n")
line = record {
  first = codes "refs/remotes/o/a       ";
  second = codes "refs/heads/a       ";
  last = codes "refs/heads/*:refs/remotes/o/*";
  is_first = (codes "refs/remotes/o/a", 5, inl refl, refl);
  is_second = (codes "refs/heads/a", 5, inl refl, refl);
  is_last = inl refl;
  is = refl;
}

-- a line begins with the destination and two spaces, or with a quote
begins : (l tail cell : List ℕ) → IsCell (codes "refs/remotes/o/a") cell → l ≡ cell ++ tail
    → ((rest : List ℕ) × (l ≡ codes "refs/remotes/o/a  " ++ rest)) ⊎ ((rest : List ℕ) × (l ≡ 34 ∷ rest))
begins l tail cell (shown, more, inl is, all) here = inl (
  replicate more 32 ++ tail,
  here
      ∙ ap (λ (c : List ℕ). c ++ tail) (all ∙ ap (λ (s : List ℕ). s ++ (32 ∷ 32 ∷ replicate more 32)) is),
)
begins l tail cell (shown, more, inr is, all) here = inr (
  codes "refs/remotes/o/a\"  " ++ (replicate more 32 ++ tail),
  here
      ∙ ap (λ (c : List ℕ). c ++ tail) (all ∙ ap (λ (s : List ℕ). s ++ (32 ∷ 32 ∷ replicate more 32)) is),
)

-- a line doesn't have one space after the destination, or the source first
pub no_line : ¬ (IsLine row (codes "refs/remotes/o/a refs/heads/a  refs/heads/*:refs/remotes/o/*\n"))
    × ¬ (IsLine row (codes "refs/heads/a  refs/remotes/o/a  refs/heads/*:refs/remotes/o/*\n"))
no_line = (one_space, swapped)
  where
    one_space : ¬ (IsLine row (codes "refs/remotes/o/a refs/heads/a  refs/heads/*:refs/remotes/o/*\n"))
    one_space is = elim (begins _ _ is.first is.is_first is.is) [
      | inl field ↦ other_byte 17 (codes "refs/remotes/o/a refs/heads/a  refs/heads/*:refs/remotes/o/*\n")
          (codes "refs/remotes/o/a  " ++ field.0) (λ byte. omega (arith, byte)) field.1
      | inr quoted ↦ other_byte 0 (codes "refs/remotes/o/a refs/heads/a  refs/heads/*:refs/remotes/o/*\n")
          (34 ∷ quoted.0) (λ byte. omega (arith, byte)) quoted.1
    ]

    swapped : ¬ (IsLine row (codes "refs/heads/a  refs/remotes/o/a  refs/heads/*:refs/remotes/o/*\n"))
    swapped is = elim (begins _ _ is.first is.is_first is.is) [
      | inl field ↦ other_byte 5 (codes "refs/heads/a  refs/remotes/o/a  refs/heads/*:refs/remotes/o/*\n")
          (codes "refs/remotes/o/a  " ++ field.0) (λ byte. omega (arith, byte)) field.1
      | inr quoted ↦ other_byte 0 (codes "refs/heads/a  refs/remotes/o/a  refs/heads/*:refs/remotes/o/*\n")
          (34 ∷ quoted.0) (λ byte. omega (arith, byte)) quoted.1
    ]

-- nor is the source or the text of the spec left out
pub too_short : ¬ (IsLine row (codes "refs/remotes/o/a  refs/heads/*:refs/remotes/o/*\n"))
    × ¬ (IsLine row (codes "refs/remotes/o/a  refs/heads/a  \n"))
too_short = (
  (λ is. omega (
    arith,
    ap length is.is,
    (long is).0,
    (long is).1,
    (long is).2,
    length-append is.first (is.second ++ (is.last ++ (10 ∷ []))),
    length-append is.second (is.last ++ (10 ∷ [])),
    length-append is.last (10 ∷ []),
  )),
  λ is. omega (
    arith,
    ap length is.is,
    (long is).0,
    (long is).1,
    (long is).2,
    length-append is.first (is.second ++ (is.last ++ (10 ∷ []))),
    length-append is.second (is.last ++ (10 ∷ [])),
    length-append is.last (10 ∷ []),
  ),
)
  where
    in_cell : (n : ℕ) (field cell : List ℕ) → IsCell field cell → n ≤ length field → n ≤ length (in_quotes field)
        → n + 2 ≤ length cell
    in_cell n field cell (shown, more, inl is, all) plain quoted = omega (
      arith,
      plain,
      ap length is,
      ap length all,
      length-append shown (32 ∷ 32 ∷ replicate more 32),
    )
    in_cell n field cell (shown, more, inr is, all) plain quoted = omega (
      arith,
      quoted,
      ap length is,
      ap length all,
      length-append shown (32 ∷ 32 ∷ replicate more 32),
    )

    shown_last : (last : List ℕ) → IsQuoted (codes "refs/heads/*:refs/remotes/o/*") last → 29 ≤ length last
    shown_last last (inl is) = omega (arith, ap length is)
    shown_last last (inr is) = omega (arith, ap length is)

    long : {line : List ℕ} (is : IsLine row line) → (18 ≤ length is.first) × (14 ≤ length is.second)
        × (29 ≤ length is.last)
    long is = (
      in_cell 16 (codes "refs/remotes/o/a") is.first is.is_first (omega arith) (omega arith),
      in_cell 12 (codes "refs/heads/a") is.second is.is_second (omega arith) (omega arith),
      shown_last is.last is.is_last,
    )

-- a line is appended
pub write : WritesLine row (codes "a\n")
    (codes "a\nrefs/remotes/o/a       refs/heads/a       refs/heads/*:refs/remotes/o/*\n")
write = (codes "refs/remotes/o/a       refs/heads/a       refs/heads/*:refs/remotes/o/*\n", line, refl)

pub not_write :
    ¬ (WritesLine row (codes "b\n") (codes "refs/remotes/o/a  refs/heads/a  refs/heads/*:refs/remotes/o/*\n"))
not_write writes = other_byte 0 (codes "refs/remotes/o/a  refs/heads/a  refs/heads/*:refs/remotes/o/*\n")
    (codes "b\n" ++ writes.0) (λ byte. omega (arith, byte)) writes.2

-- a line for each row, and each row has one
pub lines : AreRowLines [] []
    × AreRowLines (row ∷ []) (codes "refs/remotes/o/a       refs/heads/a       refs/heads/*:refs/remotes/o/*\n")
    × ¬ (AreRowLines (row ∷ []) []) × ¬ (AreRowLines [] (codes "\n"))
lines = (
  refl,
  (codes "refs/remotes/o/a       refs/heads/a       refs/heads/*:refs/remotes/o/*\n", [], line, refl, refl),
  no_row,
  λ are. omega (arith, ap length are),
)
  where
    no_row : ¬ (AreRowLines (row ∷ []) [])
    no_row (l, rest, is, none, same) = elim (begins l _ is.first is.is_first is.is) [
      | inl field ↦ omega (arith, ap length (same ∙ ap (λ (x : List ℕ). x ++ rest) field.1))
      | inr quoted ↦ omega (arith, ap length (same ∙ ap (λ (x : List ℕ). x ++ rest) quoted.1))
    ]

-- ---- mappings

-- each field ends with one zero byte
pub zero_fields : (fields row ≡ (codes "refs/remotes/o/a" ++ 0 ∷ []) ++
    ((codes "refs/heads/a" ++ 0 ∷ []) ++ (codes "refs/heads/*:refs/remotes/o/*" ++ 0 ∷ [])))
zero_fields = refl

alone_line : IsLine (record { destination = codes "FETCH_HEAD"; source = codes "HEAD"; spec = codes "HEAD" })
    (codes "FETCH_HEAD  HEAD  HEAD\n")
alone_line = record {
  first = codes "FETCH_HEAD  ";
  second = codes "HEAD  ";
  last = codes "HEAD";
  is_first = (codes "FETCH_HEAD", 0, inl refl, refl);
  is_second = (codes "HEAD", 0, inl refl, refl);
  is_last = inl refl;
  is = refl;
}

tracked_line : IsLine (record {
  destination = codes "refs/remotes/o/main";
  source = codes "refs/heads/main";
  spec = codes "refs/heads/*:refs/remotes/o/*";
})
    (codes "refs/remotes/o/main  refs/heads/main  refs/heads/*:refs/remotes/o/*\n")
tracked_line = record {
  first = codes "refs/remotes/o/main  ";
  second = codes "refs/heads/main  ";
  last = codes "refs/heads/*:refs/remotes/o/*";
  is_first = (codes "refs/remotes/o/main", 0, inl refl, refl);
  is_second = (codes "refs/heads/main", 0, inl refl, refl);
  is_last = inl refl;
  is = refl;
}

-- a missing destination is `FETCH_HEAD` in a line, and an empty field in a record
pub reported : AddsMappings form.Lines texts (alone ∷ []) [] (codes "FETCH_HEAD  HEAD  HEAD\n")
    × AddsMappings form.Zeros texts (alone ∷ []) [] (0 ∷ ((codes "HEAD" ++ 0 ∷ []) ++ (codes "HEAD" ++ 0 ∷ [])))
    × AddsMappings form.Lines texts (to_o ∷ []) (codes "a\n")
    (codes "a\nrefs/remotes/o/main  refs/heads/main  refs/heads/*:refs/remotes/o/*\n")
    × AddsMappings form.Lines texts [] (codes "a\n") (codes "a\n")
reported = (
  (codes "FETCH_HEAD  HEAD  HEAD\n", (codes "FETCH_HEAD  HEAD  HEAD\n", [], alone_line, refl, refl), refl),
  refl,
  (
    codes "refs/remotes/o/main  refs/heads/main  refs/heads/*:refs/remotes/o/*\n",
    (codes "refs/remotes/o/main  refs/heads/main  refs/heads/*:refs/remotes/o/*\n", [], tracked_line, refl, refl),
    refl,
  ),
  ([], refl, refl),
)

-- records don't contain `FETCH_HEAD`, nor the source first, and no mapping is lost
pub not_reported : ¬ (AddsMappings form.Zeros texts (alone ∷ []) []
    ((codes "FETCH_HEAD" ++ 0 ∷ []) ++ ((codes "HEAD" ++ 0 ∷ []) ++ (codes "HEAD" ++ 0 ∷ []))))
    × ¬ (AddsMappings form.Zeros texts (to_o ∷ []) []
    ((codes "refs/heads/main" ++ 0 ∷ []) ++
    ((codes "refs/remotes/o/main" ++ 0 ∷ []) ++ (codes "refs/heads/*:refs/remotes/o/*" ++ 0 ∷ []))))
    × ¬ (AddsMappings form.Zeros texts (alone ∷ []) [] [])
not_reported = (
  (λ same. omega (arith, ap length same)),
  (λ same. omega (arith, ap (λ (l : List ℕ). get_or l 5 0) same)),
  λ same. omega (arith, ap length same),
)
