-- The specs that count, and the report on the answer.
use Rattle.std.proofs.Common.{List, ap, cond, map, refl, subst, ◌++◌, ◌∷◌, [], ◌∙◌}
use Rattle.gix_refspec.specs.Views.Spec.{reading_of}
use Rattle.gix_refspec_match.specs.declared.types.Item.{Item}
use Rattle.gix_refspec_text.specs.Specs.Reading.{Reading, all_tags}
use Rattle.refspec_fetch.specs.Answer.{takes_all}
use Rattle.refspec_fetch.specs.Report.{report_of}
use Rattle.refspec_commands.specs.declared.fates.question.Known.TheVariants as known
use Rattle.refspec_commands.specs.declared.fates.question.Question.{Question}
use Rattle.refspec_git.specs.Fates.{ReportsLocal}
use Rattle.refspec_git.proofs.fates.report_local.Goals as goal

pub returns : goal.returns
returns c =
    let inquiry = c.args.inquiry.now in
    let g = map reading_of c.args.specs.now in
    let question : Question = record {
      name = inquiry.name;
      specs = c.as_slice.result;
      refs = c.as_slice-2.result;
      known = known.Listed;
    } in
    record {
      question = question;
      answer = c.in_ok-answer.answer;
      named = refl;
      counted = ap (map reading_of) c.as_slice.ensures.value ∙ (c.in_ok-add_all_tags.ensures
          ∙ ap (λ (l : List Reading). l ++ cond (takes_all inquiry.specs.tags) (all_tags ∷ []) [])
          (ap (map reading_of) c.in_ok-all.ensures.items));
      refs = c.as_slice-2.ensures.value;
      known = refl;
      answered = c.in_ok-answer.ensures;
      reported = c.in_ok-report_local_answer.ensures;
      ended = c.local_status_of.ensures;
    }
