-- In JSON the report is an object; else the results stay as they were.
use Rattle.refspec_io.proofs.JsonLemmas.{AddsObjects-one}
use Rattle.refspec_io.proofs.ShownLemmas.{on_ok}
use Rattle.refspec_fetch.specs.Stale.{IsKeptLine, kept_of}
use Rattle.refspec_fetch.proofs.stale.report_one_kept.Goals as goal

pub returns-in-Json-clause-reported : goal.returns-in-Json-clause-reported
returns-in-Json-clause-reported c = on_ok c.write_kept_object.result _ _ c.write_kept_object.ensures
    (λ write. AddsObjects-one c.args.report.now.form IsKeptLine (kept_of c.args.kept.now) write.0
    c.args.report.now.results.items c.write_kept_object.new.out.items c.in-Json.is write.1 write.2)
