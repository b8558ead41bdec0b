-- Updates as lines, records and objects: examples and counterexamples.
use Rattle.std.proofs.Common.{◌≡◌, ℕ, List, [], ◌∷◌, ◌++◌, None, Some, inl, ap, arith, codes, length, length-append}
use Rattle.std.proofs.Common.{refl, ◌∙◌}
use Rattle.std.specs.Str.{chars, is_utf8}
use Rattle.gix_refspec_plan.specs.declared.Origin.TheVariants as origin
use Rattle.gix_refspec_plan.specs.declared.Verdict.TheVariants as verdict
use Rattle.gix_refspec.specs.Matching.Mappings.{name}
use Rattle.gix_refspec_plan.specs.Matching.Plan.{Planned}
use Rattle.refspec_json.specs.Objects.{line_of, mapping_object}
use Rattle.refspec_fetch.specs.declared.origins.SpecTexts.{SpecTexts}
use Rattle.refspec_fetch.specs.Updates.{AddsUpdateLines, IsHeading, IsUpdateLine, fields_with, object_with}

-- an update without a destination, one by a configured spec, and one that is fetched for want of specs
abbrev pub alone : Planned
alone = record {
  source = name (codes "HEAD");
  item = Some 0;
  destination = None;
  origin = origin.Given 0;
  verdict =
      verdict.Written;
}

abbrev pub to_o : Planned
to_o = record {
  source = name (codes "refs/heads/a");
  item = Some 1;
  destination = Some (codes "refs/o/a");
  origin =
      origin.Configured 0;
  verdict = verdict.Written;
}

abbrev pub by_default : Planned
by_default = record {
  source = name (codes "HEAD");
  item = Some 0;
  destination = None;
  origin = origin.Default;
  verdict = verdict.Written;
}

-- a given spec is alone in its line, another has behind it where it comes from
pub headings : IsHeading (codes "HEAD") (origin.Given 0) (codes "HEAD\n") × IsHeading (codes "a:b")
    (origin.Configured 0) (codes "a:b (configured)\n")
headings = ((codes "HEAD", inl refl, refl), (codes "a:b", inl refl, refl))

default_line : IsUpdateLine (codes "HEAD") by_default (codes "HEAD  FETCH_HEAD  HEAD (default)\n")
default_line = record {
  first = codes "HEAD  ";
  second = codes "FETCH_HEAD  ";
  last = codes "HEAD (default)\n";
  is_first = (codes "HEAD", 0, inl refl, refl);
  is_second = (codes "FETCH_HEAD", 0, inl refl, refl);
  is_last = (codes "HEAD", inl refl, refl);
  is = refl;
}

-- the source, the destination and the spec; a line for each update, and none is lost
pub lines : (texts : SpecTexts) → IsUpdateLine (codes "a:b") to_o (codes "refs/heads/a  refs/o/a  a:b (configured)\n")
    × AddsUpdateLines texts (by_default ∷ by_default ∷ []) (codes "x\n")
    (codes "x\nHEAD  FETCH_HEAD  HEAD (default)\nHEAD  FETCH_HEAD  HEAD (default)\n")
    × AddsUpdateLines texts [] (codes "x\n") (codes "x\n") × ¬ (AddsUpdateLines texts (by_default ∷ []) [] [])
lines texts = (
  record {
    first = codes "refs/heads/a  ";
    second = codes "refs/o/a  ";
    last = codes "a:b (configured)\n";
    is_first = (codes "refs/heads/a", 0, inl refl, refl);
    is_second = (codes "refs/o/a", 0, inl refl, refl);
    is_last = (codes "a:b", inl refl, refl);
    is = refl;
  },
  (
    _,
    (
      codes "HEAD  FETCH_HEAD  HEAD (default)\n",
      _,
      default_line,
      (codes "HEAD  FETCH_HEAD  HEAD (default)\n", [], default_line, refl, refl),
      refl,
    ),
    refl,
  ),
  ([], refl, refl),
  (λ adds.
      let (more, (line, rest, is, others, all), grown) = adds in
      omega (
        arith,
        ap length (grown
            ∙ (all ∙ ap (λ (l : List ℕ). l ++ rest)
            (is.is ∙ ap (λ (l : List ℕ). is.first ++ (is.second ++ l)) is.is_last.2))),
        length-append (is.first ++ (is.second ++ (is.is_last.0 ++ codes " (default)\n"))) rest,
        length-append is.first (is.second ++ (is.is_last.0 ++ codes " (default)\n")),
        length-append is.second (is.is_last.0 ++ codes " (default)\n"),
        length-append is.is_last.0 (codes " (default)\n"),
      )),
)

-- four fields, of which the second is empty without a destination
pub fields : (fields_with (codes "HEAD") alone ≡ codes "HEAD"
    ++ (0 ∷ 0 ∷ codes "HEAD" ++ (0 ∷ codes "given" ++ (0 ∷ []))))
    × (fields_with (codes "a:b") to_o ≡ codes "refs/heads/a"
    ++ (0 ∷ codes "refs/o/a" ++ (0 ∷ codes "a:b" ++ (0 ∷ codes "configured" ++ (0 ∷ [])))))
fields = (refl, refl)

-- a missing destination is null
pub objects :
    (object_with (codes "HEAD") alone ≡ line_of
    (mapping_object (codes "HEAD") None (codes "HEAD") (Some (codes "given"))))
    × (object_with (codes "a:b") to_o ≡ line_of (mapping_object (codes "refs/heads/a") (Some (codes "refs/o/a"))
    (codes "a:b") (Some (codes "configured"))))
unfolding is_utf8 chars lib.Utf8.encode
objects = (refl, refl)
