-- What is asked is answered, and reported.
use Rattle.std.proofs.Common.{List, refl, subst}
use Rattle.refspec_commands.specs.declared.prefetches.answer.Applied.{Applied}
use Rattle.refspec_commands.specs.Each.{AddsEach}
use Rattle.refspec_commands.specs.Prefetches.{IsReported}
use Rattle.refspec_commands.proofs.prefetches.report_prefetches.Goals as goal

pub returns : goal.returns
returns c =
    let old = c.args.report.now in (
      refl,
      (
        c.in_ok-all.all.items,
        c.in_ok-all.ensures,
        subst (λ (l : List Applied). AddsEach (IsReported old.form) l old.results.items
            c.report_answer.new.report.results.items) c.as_slice.ensures.value c.in_ok-report_answer.ensures,
      ),
    )
