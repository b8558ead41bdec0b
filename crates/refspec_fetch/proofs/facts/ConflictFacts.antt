-- The lines and the object on a conflict, as in runs of `plan`: its destination, and each source with the text of its
-- spec
-- and where that comes from.
use Rattle.std.proofs.Common.{◌≡◌, ℕ, List, [], ◌∷◌, ◌++◌, inl, inr, ap, arith, codes, get_or, length, length-append}
use Rattle.std.proofs.Common.{refl, ◌∙◌}
use Rattle.std.specs.Str.{chars, is_utf8}
use Rattle.refspec_json.specs.Objects.{conflict_object, line_of}
use Rattle.refspec_io.specs.declared.call.Form.TheVariants as form
use Rattle.refspec_io.specs.declared.call.Limit.TheVariants as limit
use Rattle.refspec_fetch.specs.declared.origins.SpecTexts.{SpecTexts}
use Rattle.refspec_fetch.specs.Conflicts.{AddsConflictLines, Contest, IsClaim, IsReportedConflict, WritesClaim}
use Rattle.refspec_fetch.specs.Conflicts.{conflict_line}
use Rattle.refspec_fetch.proofs.facts.UpdateFacts.{by_default}

abbrev heads_text : List ℕ
heads_text = codes "refs/heads/*:refs/x/*"

abbrev tags_text : List ℕ
tags_text = codes "refs/tags/*:refs/x/*"

-- a source and its spec, each quoted if needed, and what is said of the spec
pub claims : IsClaim (codes "refs/heads/a") heads_text [] (codes "    refs/heads/a by refs/heads/*:refs/x/*\n")
    × IsClaim (codes "a\tb") heads_text (codes " (configured)")
    (codes "    \"a\\tb\" by refs/heads/*:refs/x/* (configured)\n")
    × WritesClaim (codes "refs/tags/a") tags_text [] (codes "x\n")
    (codes "x\n    refs/tags/a by refs/tags/*:refs/x/*\n")
claims = (
  record { first = codes "refs/heads/a"; second = heads_text; is_first = inl refl; is_second = inl refl; is = refl },
  record { first = codes "\"a\\tb\""; second = heads_text; is_first = inr refl; is_second = inl refl; is = refl },
  (
    codes "    refs/tags/a by refs/tags/*:refs/x/*\n",
    record { first = codes "refs/tags/a"; second = tags_text; is_first = inl refl; is_second = inl refl; is = refl },
    refl,
  ),
)

-- the source isn't behind its spec, nor is what is said of the spec left out
pub no_claims : ¬ (IsClaim (codes "refs/heads/a") heads_text [] (codes "    refs/heads/*:refs/x/* by refs/heads/a\n"))
    × ¬ (IsClaim (codes "a") (codes "b") (codes " (configured)") (codes "    a by b\n"))
no_claims = (turned, unnoted)
  where
    turned : ¬ (IsClaim (codes "refs/heads/a") heads_text [] (codes "    refs/heads/*:refs/x/* by refs/heads/a\n"))
    turned is =
        let after = codes " by " ++ (is.second ++ ([] ++ (10 ∷ []))) in
        elim is.is_first [
          | inl raw ↦ omega (
            arith,
            ap (λ (l : List ℕ). get_or l 15 0)
                (is.is ∙ ap (λ (s : List ℕ). codes "    " ++ (s ++ after)) raw),
          )
          | inr quoted ↦
              omega (
                arith,
                ap (λ (l : List ℕ). get_or l 4 0)
                    (is.is ∙ ap (λ (s : List ℕ). codes "    " ++ (s ++ after)) quoted),
              )
        ]

    unnoted : ¬ (IsClaim (codes "a") (codes "b") (codes " (configured)") (codes "    a by b\n"))
    unnoted is =
        omega (
          arith,
          ap length is.is,
          length-append is.first (codes " by " ++ (is.second ++ (codes " (configured)" ++ (10 ∷ [])))),
          length-append is.second (codes " (configured)" ++ (10 ∷ [])),
        )

-- ---- conflicts

-- a destination with an update, named by the spec that is fetched for want of others
abbrev contest : Contest
contest = record { destination = codes "refs/x/a"; updates = by_default ∷ [] }

abbrev conflict_lines : List ℕ
conflict_lines =
    codes
    "conflict: refs/x/a would be written from several refs, so nothing is fetched:\n    HEAD by HEAD (default)\n    Do so.\n"

-- the advice is left open
reported : (texts : SpecTexts) → IsReportedConflict texts contest conflict_lines
reported texts = record {
  shown = codes "refs/x/a";
  claims = codes "    HEAD by HEAD (default)\n";
  advice = codes "    Do so.\n";
  destination = inl refl;
  each = (
    codes "    HEAD by HEAD (default)\n",
    [],
    record {
      first = codes "HEAD";
      second = codes "HEAD";
      is_first =
          inl refl;
      is_second = inl refl;
      is = refl;
    },
    refl,
    refl,
  );
  is = refl;
}

-- a conflict is reported, and in JSON it is no message
pub all_reported : (texts : SpecTexts) → AddsConflictLines limit.Twenty form.Lines texts (contest ∷ []) (codes "x\n")
    (codes "x\n" ++ (conflict_lines ++ []))
    × AddsConflictLines limit.All form.Zeros texts [] (codes "x\n") (codes "x\n")
    × AddsConflictLines limit.Twenty form.Json texts
    (contest ∷ []) (codes "x\n") (codes "x\n")
all_reported texts = ((conflict_lines, (conflict_lines, [], reported texts, refl, refl), refl), ([], refl, refl), refl)

-- none is lost
pub none_lost : (texts : SpecTexts) → ¬ (AddsConflictLines limit.Twenty form.Lines texts (contest ∷ []) [] [])
none_lost texts adds =
    let (lines, (one, rest, is, none, all), grown) = adds in
    omega (arith, ap length (grown ∙ ap (λ (l : List ℕ). l ++ []) (all ∙ ap (λ (l : List ℕ). l ++ rest) is.is)))

-- the object names each source with the text of its spec and its origin
pub object : (texts : SpecTexts) → conflict_line texts contest ≡ line_of
    (conflict_object (codes "refs/x/a") (record { source = codes "HEAD"; spec = codes "HEAD"; origin = codes "default" }
    ∷ []))
unfolding is_utf8 chars lib.Utf8.encode
object texts = refl
