-- What is asked is answered, and reported.
use Rattle.std.proofs.Common.{List, MatchBool, subst}
use Rattle.std.specs.List.{All, Any}
use Rattle.refspec_commands.specs.declared.renames.answer.Value.{Value}
use Rattle.refspec_commands.specs.Each.{AddsEach}
use Rattle.refspec_commands.specs.Renames.{IsReported, IsUnchanged}
use Rattle.refspec_commands.proofs.renames.report_renames.Goals as goal

pub returns : goal.returns
returns c =
    let old = c.args.report.now in
    let left = c.has_unchanged.result in
    record {
      values = c.in_ok-values.values.items;
      are = rw (c.as_bytes.ensures.value, c.as_bytes-2.ensures.value) at c.in_ok-values.ensures;
      reported = subst (λ (l : List Value). AddsEach (IsReported old.form) l old.results.items
          c.report_answer.new.report.results.items) c.as_slice.ensures.value c.in_ok-report_answer.ensures;
      status = subst (λ (l : List Value). MatchBool left (Any IsUnchanged l) (All (λ v. ¬ (IsUnchanged v)) l))
          c.as_slice-2.ensures.value c.has_unchanged.ensures;
    }
