-- What is reported of refs here, of a plan that is carried out, and of a whole answer.
use Rattle.std.proofs.Common.{ℕ, false, List, [], ◌∷◌, ◌++◌, inl, inr, ap, arith, codes, ◌∙◌, length}
use Rattle.std.proofs.Common.{length-append, refl, subst}
use Rattle.std.proofs.lemmas.Bool.{false≢true}
use Rattle.gix_refspec_plan.specs.declared.Origin.TheVariants as origin
use Rattle.gix_refspec_plan.specs.Matching.Plan.{Planned}
use Rattle.refspec_io.specs.declared.call.Form.{Form}
use Rattle.refspec_io.specs.declared.call.Form.TheVariants as form
use Rattle.refspec_io.specs.declared.call.Limit.TheVariants as limit
use Rattle.refspec_fetch.specs.declared.origins.SpecTexts.{SpecTexts}
use Rattle.refspec_fetch.specs.declared.question.Subject.TheVariants as subject
use Rattle.refspec_fetch.specs.declared.report.Style.{Style}
use Rattle.refspec_fetch.specs.Conflicts.{AddsConflicts}
use Rattle.refspec_fetch.specs.Origins.{AreTextsOf}
use Rattle.refspec_fetch.specs.Report.{AddsAnswer, AddsCarriedOut, AddsFirst, Report}
use Rattle.refspec_fetch.specs.Stale.{AddsStale}
use Rattle.refspec_fetch.proofs.facts.AnswerFacts.{answered, left, one, whole}
use Rattle.refspec_fetch.proofs.facts.ContestFacts.{contests}
use Rattle.refspec_fetch.proofs.facts.TextsFacts.{texts_with, wish_for}
use Rattle.refspec_fetch.proofs.facts.UpdateFacts.{by_default}

-- ---- refs here

-- nothing is reported where none is stale and all are read
pub none_stale : (texts : SpecTexts) (planned : List Planned)
    → AddsStale form.Zeros texts (answered subject.Stale planned []) (codes "x") (codes "x")
none_stale texts planned = record {
  first = codes "x";
  second = codes "x";
  malformed = refl;
  deleted = refl;
  kept =
      refl;
}

-- and a stale one is
pub not_stale : (texts : SpecTexts)
    → ¬ (AddsStale form.Zeros texts (answered subject.Stale [] []) [] (codes "x"))
    × ¬ (AddsStale form.Zeros texts (record (answered subject.Stale [] []) { stale = one ∷ [] }) [] [])
not_stale texts = (
  (λ is. omega (arith, ap length is.malformed, ap length is.deleted, ap length is.kept, length-append is.first [])),
  λ is. omega (
    arith,
    ap length is.malformed,
    ap length is.deleted,
    ap length is.kept,
    length-append is.first (0 ∷ []),
  ),
)

-- ---- plans that are carried out

-- a report in records
abbrev pub so_far : List ℕ → Report
so_far results = record { form = form.Zeros; results = results; messages = codes "m" }

abbrev fields : List ℕ
fields = codes "HEAD" ++ (0 ∷ 0 ∷ codes "HEAD" ++ (0 ∷ codes "default" ++ (0 ∷ [])))

-- a style that shows all
abbrev shows_all : Style → Style
shows_all style = record style { limit = limit.All; long = false }

-- the updates that are written are results, if updates are asked for
pub carried_out : (style : Style) (texts : SpecTexts)
    → AddsCarriedOut (shows_all style) texts (answered subject.Updates (left ∷ by_default ∷ []) [])
    (so_far (codes "x")) (so_far (codes "x" ++ fields))
    × AddsCarriedOut (shows_all style) texts (answered subject.Stale (by_default ∷ []) [])
    (so_far (codes "x")) (so_far (codes "x"))
carried_out style texts = (
  record {
    between = so_far (codes "x" ++ fields);
    updates = (refl, refl);
    stale = record {
      first = codes "x" ++ fields;
      second = codes "x" ++ fields;
      malformed = refl;
      deleted = refl;
      kept = refl;
    };
    form = refl;
  },
  record { between = so_far (codes "x"); updates = refl; stale = none_stale texts (by_default ∷ []); form = refl },
)

pub not_carried_out : (style : Style) (texts : SpecTexts)
    → ¬ (AddsCarriedOut (shows_all style) texts (answered subject.Updates (by_default ∷ []) []) (so_far []) (so_far []))
    × ¬ (AddsCarriedOut (shows_all style) texts (answered subject.Stale (by_default ∷ []) [])
    (so_far []) (so_far (codes "x")))
not_carried_out style texts = (
  (λ is.
      let stale = subst (λ (f : Form). AddsStale f texts (answered subject.Updates (by_default ∷ []) [])
      is.between.results []) is.updates.0 is.stale in
      omega (
        arith,
        ap length is.updates.1,
        ap length stale.malformed,
        ap length stale.deleted,
        ap length stale.kept,
        length-append stale.first [],
      )),
  λ is.
      let stale = subst (λ (r : Report). AddsStale r.form texts (answered subject.Stale (by_default ∷ []) [])
      r.results (codes "x")) is.updates is.stale in
      omega (
        arith,
        ap length stale.malformed,
        ap length stale.deleted,
        ap length stale.kept,
        length-append stale.first [],
      ),
)

-- ---- whole answers

of_none : (texts : SpecTexts) → AreTextsOf (wish_for [] [] false) (texts_with texts [] [] [] (omega arith) false)
of_none texts = record {
  given = tt;
  configured = tt;
  merges = refl;
  alone = (
    λ none. absurd (false≢true none),
    λ yes. absurd (omega (arith, yes.one)),
  );
}

-- nothing is missing, left out or in conflict
pub first : (style : Style) (texts : SpecTexts)
    → AddsFirst (shows_all style) texts (answered subject.Updates (by_default ∷ []) []) (so_far (codes "x"))
    (so_far (codes "x"))
first style texts = record {
  first = so_far (codes "x");
  second = so_far (codes "x");
  missing = record { messages = ([], refl, refl); objects = refl };
  kept = refl;
  unwritten = record {
    first = so_far (codes "x");
    second = so_far (codes "x");
    left_out = record { form = refl; said = ([], refl); objects = refl };
    overruled = record { form = refl; said = ([], refl); objects = refl };
    nested = record { form = refl; said = ([], refl); objects = refl };
  };
  conflicts = record { contests = []; are = contests.1; messages = ([], refl, refl); objects = refl };
  form = refl;
}

-- then the updates follow
pub reported : (style : Style) (texts : SpecTexts)
    → AddsAnswer (shows_all style) (answered subject.Updates (by_default ∷ []) []) (so_far (codes "x"))
    (so_far (codes "x" ++ fields))
reported style texts =
    let none = texts_with texts [] [] [] (omega arith) false in
    record {
      texts = none;
      between = so_far (codes "x");
      of_specs = of_none texts;
      first = first style none;
      rest = inr (
        whole,
        record {
          between = so_far (codes "x" ++ fields);
          updates = (refl, refl);
          stale = record {
            first = codes "x" ++ fields;
            second = codes "x" ++ fields;
            malformed = refl;
            deleted = refl;
            kept = refl;
          };
          form = refl;
        },
      );
    }

-- behind a missing source nothing is a result, in records
pub not_stopped : (style : Style)
    → ¬ (AddsAnswer (shows_all style) (answered subject.Stale [] (origin.Default ∷ [])) (so_far [])
    (so_far (codes "x")))
not_stopped style = λ is. elim is.rest [
  | inl stopped ↦
      let same = is.first.unwritten in
      let conflicts =
      subst (λ (f : Form). AddsConflicts limit.All f is.texts [] is.first.second.messages is.between.messages
      is.first.second.results is.between.results) (ap (λ (r : Report). r.form) same ∙ is.first.kept)
      is.first.conflicts in
      omega (
        arith,
        ap (λ (r : Report). length r.results) stopped.1,
        ap length conflicts.objects,
        ap (λ (r : Report). length r.results) same,
        ap length is.first.missing.objects,
      )
  | inr goes ↦ omega (arith, ap length goes.0.whole)
]
