-- Updates grouped below their specs, as in runs of `plan`: examples and counterexamples.
use Rattle.std.proofs.Common.{ℕ, true, false, List, [], ◌∷◌, ◌++◌, None, Some, inl, inr, ap, arith, codes, length}
use Rattle.std.proofs.Common.{length-append, refl, replicate, ◌∙◌}
use Rattle.gix_refspec_plan.specs.declared.Origin.TheVariants as origin
use Rattle.refspec_fetch.specs.declared.origins.SpecTexts.{SpecTexts}
use Rattle.refspec_fetch.specs.Groups.{AddsGroupsIf, IsHead, IsShort}
use Rattle.refspec_fetch.proofs.facts.UpdateFacts.{alone, by_default, to_o}

-- the source, and the destination or FETCH_HEAD
pub lines : IsShort alone (codes "HEAD  FETCH_HEAD\n") × IsShort to_o (codes "refs/heads/a  refs/o/a\n")
lines = (
  record {
    cell = codes "HEAD  ";
    last = codes "FETCH_HEAD";
    is_cell = (codes "HEAD", 0, inl refl, refl);
    is_last =
        inl refl;
    is = refl;
  },
  record {
    cell = codes "refs/heads/a  ";
    last = codes "refs/o/a";
    is_cell = (codes "refs/heads/a", 0, inl refl, refl);
    is_last = inl refl;
    is = refl;
  },
)

default_line : IsShort by_default (codes "HEAD  FETCH_HEAD\n")
default_line = record {
  cell = codes "HEAD  ";
  last = codes "FETCH_HEAD";
  is_cell = (codes "HEAD", 0, inl refl, refl);
  is_last = inl refl;
  is = refl;
}

-- a destination isn't left out
pub not_short : ¬ (IsShort alone (codes "\n"))
not_short is =
    omega (
      arith,
      ap length (is.is ∙ ap (λ (l : List ℕ). l ++ (is.last ++ (10 ∷ []))) is.is_cell.3),
      length-append (is.is_cell.0 ++ (32 ∷ 32 ∷ replicate is.is_cell.1 32)) (is.last ++ (10 ∷ [])),
      length-append is.is_cell.0 (32 ∷ 32 ∷ replicate is.is_cell.1 32),
      length-append is.last (10 ∷ []),
    )

-- the text of a spec is before its first update, also after one by another spec, and not before the next one
pub heads : (texts : SpecTexts) → IsHead texts None by_default (codes "HEAD (default)\n")
    × IsHead texts (Some (origin.Given 0)) by_default (codes "HEAD (default)\n")
    × IsHead texts (Some origin.Default) by_default [] × ¬ (IsHead texts None by_default [])
heads texts = (
  inr ((λ same. cc), (codes "HEAD", inl refl, refl)),
  inr ((λ same. cc), (codes "HEAD", inl refl, refl)),
  inl (refl, refl),
  none,
)
  where
    none : ¬ (IsHead texts None by_default [])
    none (inl (same, empty)) = cc
    none (inr (other, (shown, is, line))) = omega (arith, ap length line, length-append shown (codes " (default)\n"))

-- the only spec isn't shown; others are above their updates, which are indented
pub groups : (texts : SpecTexts) → AddsGroupsIf true texts (by_default ∷ []) (codes "x\n")
    (codes "x\nHEAD  FETCH_HEAD\n")
    × AddsGroupsIf false texts (by_default ∷ by_default ∷ []) []
    (codes "HEAD (default)\n  HEAD  FETCH_HEAD\n  HEAD  FETCH_HEAD\n")
    × AddsGroupsIf false texts [] (codes "x\n") (codes "x\n")
groups texts = (
  (codes "HEAD  FETCH_HEAD\n", (codes "HEAD  FETCH_HEAD\n", [], default_line, refl, refl), refl),
  (
    _,
    (
      codes "HEAD (default)\n  HEAD  FETCH_HEAD\n",
      codes "  HEAD  FETCH_HEAD\n",
      record {
        head = codes "HEAD (default)\n";
        line = codes "HEAD  FETCH_HEAD\n";
        is_head = (heads texts).0;
        is_line =
            default_line;
        is = refl;
      },
      (
        codes "  HEAD  FETCH_HEAD\n",
        [],
        record {
          head = [];
          line = codes "HEAD  FETCH_HEAD\n";
          is_head = (heads texts).2;
          is_line = default_line;
          is =
              refl;
        },
        refl,
        refl,
      ),
      refl,
    ),
    refl,
  ),
  ([], refl, refl),
)

-- no update is lost
pub not_groups : (texts : SpecTexts) → ¬ (AddsGroupsIf false texts (by_default ∷ []) [] [])
    × ¬ (AddsGroupsIf true texts (by_default ∷ []) [] [])
not_groups texts = (
  (λ adds. omega (
    arith,
    ap length (adds.2 ∙ (adds.1.4 ∙ ap (λ (l : List ℕ). l ++ adds.1.1) adds.1.2.is)),
    length-append (adds.1.2.head ++ (codes "  " ++ adds.1.2.line)) adds.1.1,
    length-append adds.1.2.head (codes "  " ++ adds.1.2.line),
  )),
  λ adds. omega (
    arith,
    ap length (adds.2 ∙ (adds.1.4 ∙ ap (λ (l : List ℕ). l ++ adds.1.1) adds.1.2.is)),
    length-append (adds.1.2.cell ++ (adds.1.2.last ++ (10 ∷ []))) adds.1.1,
    length-append adds.1.2.cell (adds.1.2.last ++ (10 ∷ [])),
    length-append adds.1.2.last (10 ∷ []),
  ),
)
