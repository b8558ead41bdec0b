-- The reports of missing sources: examples and counterexamples.
use Rattle.std.proofs.Common.{◌≡◌, ◌≤◌, ◌++◌, ℕ, List, [], ◌∷◌, None, Some, inl, inr, ap, arith, codes, get_or, length}
use Rattle.std.proofs.Common.{refl, replicate, ◌∙◌}
use Rattle.std.specs.Str.{chars, is_utf8}
use Rattle.gix_refspec_plan.specs.declared.Origin.TheVariants as origin
use Rattle.refspec_json.specs.Objects.{line_of, missing_object}
use Rattle.refspec_io.specs.declared.call.Form.TheVariants as form
use Rattle.refspec_io.specs.declared.call.Limit.TheVariants as limit
use Rattle.refspec_fetch.specs.declared.origins.SpecTexts.{SpecTexts}
use Rattle.refspec_fetch.specs.Missing.{AddsMissing, IsMissingLines, IsMissingObject, sentence, some_more}

abbrev head_lines : List ℕ
head_lines = codes
    "missing: HEAD (default): the remote has no such ref, so git fetch writes nothing\n    See `git ls-remote` for the refs that it has.\n"

head : IsMissingLines (codes "HEAD") origin.Default head_lines
head = record {
  shown = codes "HEAD";
  names = codes "    See `git ls-remote` for the refs that it has.\n";
  is_shown =
      inl refl;
  is = refl;
}

-- a given spec and a configured one, with a name that ends the same, and alone
pub lines : IsMissingLines (codes "a") (origin.Given 0)
    (codes "missing: a: the remote has no such ref, so git fetch writes nothing\n    It has refs/heads/x/a\n")
    × IsMissingLines (codes "a:b") (origin.Configured 1)
    (codes "missing: a:b (configured): the remote has no such ref, so git fetch writes nothing\n")
lines = (
  record { shown = codes "a"; names = codes "    It has refs/heads/x/a\n"; is_shown = inl refl; is = refl },
  record { shown = codes "a:b"; names = []; is_shown = inl refl; is = refl },
)

-- that it is configured isn't left out, and no other spec is named
pub no_lines :
    ¬ (IsMissingLines (codes "a") (origin.Configured 0)
    (codes "missing: a: the remote has no such ref, so git fetch writes nothing\n"))
    × ¬ (IsMissingLines (codes "a") (origin.Given 0)
    (codes "missing: b: the remote has no such ref, so git fetch writes nothing\n"))
no_lines = (unnoted, other)
  where
    unnoted : ¬ (IsMissingLines (codes "a") (origin.Configured 0)
        (codes "missing: a: the remote has no such ref, so git fetch writes nothing\n"))
    unnoted is =
        let after = codes " (configured)" ++ (codes ": " ++ (sentence ++ (10 ∷ is.names))) in
        elim is.is_shown [
          | inl raw ↦ omega (
            arith,
            ap (λ (l : List ℕ). get_or l 10 0)
                (is.is ∙ ap (λ (s : List ℕ). codes "missing: " ++ (s ++ after)) raw),
          )
          | inr quoted ↦
              omega (
                arith,
                ap (λ (l : List ℕ). get_or l 9 0)
                    (is.is ∙ ap (λ (s : List ℕ). codes "missing: " ++ (s ++ after)) quoted),
              )
        ]

    other : ¬ (IsMissingLines (codes "a") (origin.Given 0)
        (codes "missing: b: the remote has no such ref, so git fetch writes nothing\n"))
    other is =
        let after = codes ": " ++ (sentence ++ (10 ∷ is.names)) in
        elim is.is_shown [
          | inl raw ↦ omega (
            arith,
            ap (λ (l : List ℕ). get_or l 9 0)
                (is.is ∙ ap (λ (s : List ℕ). codes "missing: " ++ (s ++ after)) raw),
          )
          | inr quoted ↦
              omega (
                arith,
                ap (λ (l : List ℕ). get_or l 9 0)
                    (is.is ∙ ap (λ (s : List ℕ). codes "missing: " ++ (s ++ after)) quoted),
              )
        ]

-- of 0 more nothing is said
pub more : (some_more 0 ≡ None) × (some_more 3 ≡ Some 3)
more = (refl, refl)

-- twenty names are all listed; of 21 there is one more, or all are listed
pub objects : IsMissingObject limit.Twenty (codes "a") (origin.Given 0)
    (line_of (missing_object (codes "a") (codes "given") sentence (replicate 20 (codes "b/a")) None))
    × IsMissingObject limit.Twenty (codes "a") (origin.Given 0)
    (line_of (missing_object (codes "a") (codes "given") sentence (replicate 20 (codes "b/a")) (Some 1)))
    × IsMissingObject limit.All (codes "a") (origin.Given 0)
    (line_of (missing_object (codes "a") (codes "given") sentence (replicate 21 (codes "b/a")) None))
unfolding is_utf8 chars lib.Utf8.encode
objects = (
  record { count = 20; names = replicate 20 (codes "b/a"); listed = refl; is = refl },
  record { count = 21; names = replicate 20 (codes "b/a"); listed = refl; is = refl },
  record { count = 21; names = replicate 21 (codes "b/a"); listed = refl; is = refl },
)

-- no more than 20 names are listed
pub few_names : (text line : List ℕ) (is : IsMissingObject limit.Twenty text (origin.Given 0) line)
    → length is.names ≤ 20
few_names text line is = omega (arith, is.listed)

-- the lines are messages, and without a missing source there are none
pub reported : (texts : SpecTexts) → AddsMissing limit.Twenty form.Lines texts (origin.Default ∷ []) (codes "x\n")
    (codes "x\n" ++ head_lines) [] []
    × AddsMissing limit.Twenty form.Zeros texts [] (codes "x\n") (codes "x\n") [] []
reported texts = (
  record { messages = (head_lines, (head_lines, [], head, refl, refl), refl); objects = refl },
  record { messages = ([], refl, refl); objects = refl },
)

-- no missing source is passed over
pub not_passed : (texts : SpecTexts) → ¬ (AddsMissing limit.Twenty form.Lines texts (origin.Default ∷ []) [] [] [] [])
    × ¬ (AddsMissing limit.Twenty form.Json texts (origin.Default ∷ []) (codes "x\n") [] [] [])
not_passed texts = (
  (λ adds.
      let (lines, (one, rest, is, none, all), grown) = adds.messages in
      omega (arith, ap length (grown ∙ (all ∙ ap (λ (l : List ℕ). l ++ rest) is.is)))),
  λ adds. omega (arith, ap length adds.messages),
)
