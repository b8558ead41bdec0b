-- In JSON the report is an object, else lines.
use Rattle.std.proofs.Common.{refl}
use Rattle.refspec_io.proofs.ShownLemmas.{on_ok}
use Rattle.refspec_fetch.proofs.MissingLemmas.{AddsMissing-object}
use Rattle.refspec_fetch.proofs.missing.report_one.Goals as goal

pub returns-in-Json-clause-reported : goal.returns-in-Json-clause-reported
returns-in-Json-clause-reported c = λ texts is. on_ok c.write_object.result _ _ c.write_object.ensures
    (λ write. AddsMissing-object c.args.limit c.args.report.now.form texts c.args.missing.now.origin
    c.args.missing.now.text.now c.args.report.now.messages.items _ c.args.report.now.results.items
    c.write_object.new.out.items c.in-Json.is is write refl)
