-- In JSON the report is an object; else the results stay as they were.
use Rattle.std.proofs.Common.{refl}
use Rattle.refspec_io.specs.Malformed.{IsBadLine}
use Rattle.refspec_io.proofs.JsonLemmas.{AddsObjects-one}
use Rattle.refspec_io.proofs.ShownLemmas.{on_ok}
use Rattle.refspec_io.proofs.malformed.report_bad_record.Goals as goal

pub returns-in-Json-clause-reported : goal.returns-in-Json-clause-reported
returns-in-Json-clause-reported c = on_ok c.write_malformed.result _ _ c.write_malformed.ensures
    (λ write. AddsObjects-one c.args.report.now.form (IsBadLine c.args.input.now) c.args.bad.now write.0
    c.args.report.now.results.items c.write_malformed.new.out.items c.in-Json.is (_, (refl, refl), write.1) write.2)
