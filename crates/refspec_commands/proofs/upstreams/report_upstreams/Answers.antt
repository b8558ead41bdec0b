-- What is asked is answered, and reported.
use Rattle.refspec_commands.proofs.UpstreamLemmas.{refused-of}
use Rattle.refspec_commands.proofs.upstreams.report_upstreams.Goals as goal

pub returns : goal.returns
returns c =
    let found = c.in_ok-answer.answer.found.items in
    record {
      merged = c.in_ok-merged_refs.field-0.items;
      found = found;
      asked = c.in_ok-merged_refs.ensures;
      answered = c.in_ok-answer.ensures;
      reported = c.in_ok-report_answer.ensures;
      status = refused-of found c.status.result c.status.ensures;
    }
