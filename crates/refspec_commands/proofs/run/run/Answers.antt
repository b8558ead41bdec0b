-- What was read is reported, and the report is written.
use Rattle.std.proofs.Common.{ℕ, List, subst}
use Rattle.refspec_commands.specs.Output.{IsOutput}
use Rattle.refspec_commands.proofs.run.run.Goals as goal

pub returns-clause-answers : goal.returns-clause-answers
returns-clause-answers g c =
    let reported = c.in_ok-reported.reported in
    record {
      input = c.in_ok-input.input.items;
      report = reported.report;
      refused = reported.refused;
      read = c.in_ok-input.ensures.input;
      is = subst (λ (x : List ℕ). IsOutput c.args.job.now.call.now c.args.job.now.files.now x reported.report
          reported.refused) c.as_slice.ensures.value c.in_ok-reported.ensures.ok;
      written = rw c.as_slice-2.ensures.value at c.in_ok-write_all.ensures.ok;
      reported = rw c.as_slice-3.ensures.value at c.in_ok-write_all-2.ensures.ok;
      ended = c.status.ensures;
    }
