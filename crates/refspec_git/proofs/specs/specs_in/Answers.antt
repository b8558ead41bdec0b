-- The texts are read, or the refused ones are reported.
use Rattle.std.proofs.Common.{List, map, refl, subst, sym}
use Rattle.std.specs.List.{AllZip}
use Rattle.gix_refspec.specs.Views.Spec.{reading_of}
use Rattle.refspec_io.specs.declared.checked.Checked.{Checked}
use Rattle.refspec_io.specs.Json.{AddsObjects}
use Rattle.refspec_io.specs.Messages.{ReportsRefusals}
use Rattle.refspec_io.specs.Read.{HasBad, IsChecked, IsRefusalOf}
use Rattle.refspec_io.proofs.CheckedLemmas.{AreRead-of}
use Rattle.refspec_git.proofs.FetchLemmas.{RefusesTexts-of}
use Rattle.refspec_git.proofs.specs.specs_in.Goals as goal

pub returns-in-Some : goal.returns-in-Some
returns-in-Some c =
    let checked = subst (AllZip IsChecked c.args.texts.now) (sym c.as_slice.ensures.value) c.in_ok-all.ensures in (
      AreRead-of c.args.texts.now c.as_slice.result.now (map reading_of c.in-Some.specs.items) checked
          (rw c.in-Some.is at c.in_ok-specs.ensures),
      refl,
    )

pub returns : goal.returns
returns c =
    let bad : HasBad c.as_slice.result.now = rw c.in-None.is at c.in_ok-specs.ensures in
    let f = c.args.report.now.form in
    let old = c.args.report.now in
    let new = c.report_texts.new.report in
    let lent = c.as_slice-in-None.ensures.value in
    RefusesTexts-of c.args.texts.now c.in_ok-all.all.items old new c.in_ok-all.ensures
    (subst HasBad c.as_slice.ensures.value bad)
    (subst (λ (l : List Checked). AddsObjects f IsRefusalOf l old.results.items new.results.items) lent
    c.in_ok-report_texts-in-None.ensures.reported)
    (subst (λ (l : List Checked). ReportsRefusals f l old.messages.items new.messages.items) lent
    c.in_ok-report_texts-in-None.ensures.refused)
    c.in_ok-report_texts-in-None.ensures.form
