-- The specs that are read, and the refs of the remote, with what is reported by them.
use Rattle.std.proofs.Common.{List, ◌∙◌, ap, inl, map, subst}
use Rattle.gix_refspec.specs.Views.Spec.{reading_of}
use Rattle.gix_refspec_text.specs.declared.spec.RefSpecRef.{RefSpecRef}
use Rattle.refspec_io.specs.declared.report.Report.{Report as DeclaredReport}
use Rattle.refspec_io.specs.Read.{AreRead}
use Rattle.refspec_io.specs.Texts.{Given, given_of, said}
use Rattle.refspec_io.proofs.ShownLemmas.{if_ok}
use Rattle.refspec_fetch.specs.Report.{report_of}
use Rattle.refspec_git.specs.Fates.{ReportsAsked}
use Rattle.refspec_git.proofs.fates.report_on.Goals as goal

pub returns : goal.returns
returns c =
    let inquiry = c.args.inquiry.now in
    let new = report_of c.report_with.new.report in
    let items = c.in-Some-2.list.items.items in
    let name = inquiry.name.now in
    let read = rw c.in-Some.is at c.in_ok-specs.ensures in
    let listed = rw c.in-Some-2.is at c.in_ok-list.ensures in
    if_ok c.report_with.result _ _ c.report_with.ensures (λ status asked. inl (record {
      g = map reading_of c.in-Some.specs.items;
      items = items;
      read = subst (λ (t : List Given). AreRead (map said t) (map reading_of c.in-Some.specs.items))
          (ap (map given_of) c.as_slice.ensures.value ∙ c.in_ok-texts.ensures) read.0;
      listed = listed.0;
      reported = subst (λ (l : List RefSpecRef). ReportsAsked inquiry.specs (map reading_of l) items name status
          (report_of c.args.report.now) new) c.as_slice-2.ensures.value
          (subst (λ (r : DeclaredReport). ReportsAsked inquiry.specs (map reading_of c.as_slice-2.result.now) items name
          status (report_of r) new) (listed.1 ∙ read.1) asked);
    }))
