-- The texts are refused, or the prefixes are reported.
use Rattle.std.proofs.Common.{ap, map}
use Rattle.gix_refspec.specs.Views.Spec.{reading_of}
use Rattle.refspec_fetch.specs.Report.{report_of}
use Rattle.refspec_git.specs.Asked.{head_of}
use Rattle.refspec_git.proofs.AskedLemmas.{prefixes_shown, refused_shown}
use Rattle.refspec_git.proofs.fetch.report_asked.Goals as goal

pub returns-in_default : goal.returns-in_default
returns-in_default c = refused_shown (head_of c.args.asked.now.head) c.args.asked.now.notation c.args.asked.now.specs
    c.in_ok-texts.texts.items
    c.as_slice.result.now (report_of c.args.report.now) (report_of c.specs_in.new.report) c.in_ok-texts.ensures
    c.as_slice.ensures.value (rw c.in_default.is at c.in_ok-specs.ensures)

pub returns : goal.returns
returns c =
    let read = rw c.in-Some.is at c.in_ok-specs.ensures in
    prefixes_shown (head_of c.args.asked.now.head) c.args.asked.now.notation c.args.asked.now.specs
    c.in_ok-texts.texts.items
    c.as_slice.result.now (map reading_of c.in-Some.specs.items) c.in_ok-answer.answer (report_of c.args.report.now)
    (report_of c.specs_in.new.report) (report_of c.report_answer.new.report) c.in_ok-texts.ensures
    c.as_slice.ensures.value read.0 (ap report_of read.1)
    (rw (c.as_slice-2.ensures.value, c.in_ok-beside.ensures) at c.in_ok-answer.ensures)
    c.in_ok-report_answer.ensures
