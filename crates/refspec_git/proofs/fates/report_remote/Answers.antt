-- The ref that is meant, the specs that count for it, and the report on the answer.
use Rattle.std.proofs.Common.{List, map, refl, subst, sym, ℕ, ◌∙◌}
use Rattle.gix_refspec.specs.Views.Group.{ref_of}
use Rattle.gix_refspec.specs.Views.Spec.{reading_of}
use Rattle.gix_refspec_match.specs.declared.types.Item.{Item}
use Rattle.gix_refspec_text.specs.declared.spec.RefSpecRef.{RefSpecRef}
use Rattle.refspec_fetch.specs.Report.{report_of}
use Rattle.refspec_commands.specs.declared.fates.question.Known.TheVariants as known
use Rattle.refspec_commands.specs.declared.fates.question.Question.{Question}
use Rattle.refspec_git.specs.Fates.{AreCounted, MeansRef, ReportsRef}
use Rattle.refspec_git.proofs.fates.report_remote.Goals as goal

pub returns : goal.returns
returns c =
    let inquiry = c.args.inquiry.now in
    let refs = c.as_slice-refs.result.now in
    let g = map reading_of c.args.specs.now in
    let all = c.in_ok-all.all.items in
    let question : Question = record {
      name = c.as_bytes.result;
      specs = c.as_slice.result;
      refs = c.as_slice-refs.result;
      known = known.Listed;
    } in
    subst
    (λ (l : List Item). ReportsRef inquiry.specs g l inquiry.name.now c.status_of.result
    (report_of c.args.report.now) (report_of c.report_answer.new.report)) c.as_slice-refs.ensures.value
    (record {
      question = question;
      answer = c.in_ok-answer.answer;
      means = subst (MeansRef refs inquiry.name.now) (sym c.as_bytes.ensures) c.in_ok-name.ensures;
      counted = subst (λ (l : List RefSpecRef). AreCounted inquiry.specs g (map ref_of refs) question.name.now
          (map reading_of l)) (sym c.as_slice.ensures.value)
          (subst (λ (n : List ℕ). AreCounted inquiry.specs g (map ref_of refs) n (map reading_of all))
          (c.as_bstr.ensures ∙ sym c.as_bytes.ensures) c.in_ok-all.ensures);
      refs = refl;
      known = refl;
      answered = c.in_ok-answer.ensures;
      reported = c.in_ok-report_answer.ensures;
      ended = c.status_of.ensures;
    })
