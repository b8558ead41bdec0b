-- Each record is reported after the others.
use Rattle.std.proofs.Common.{◌∙◌, refl}
use Rattle.refspec_io.specs.Malformed.{IsBadLine}
use Rattle.refspec_io.specs.Refs.{bad_bytes}
use Rattle.refspec_io.proofs.JsonLemmas.{AddsObjects-all, AddsObjects-item, AddsObjects-start}
use Rattle.refspec_io.proofs.MalformedLemmas.{some_records}
use Rattle.refspec_io.proofs.malformed.report_bad_records.Goals as goal

pub loop-record-init : goal.loop-record-init
loop-record-init c =
    record {
      form = refl;
      reported = AddsObjects-start c.args.report.now.form (IsBadLine c.args.input.now)
          c.args.report.now.results.items;
    }

pub loop-record-preserved : goal.loop-record-preserved
loop-record-preserved c = record {
  form = c.in_ok-report_bad_record.ensures.form ∙ c.loop-record.invariant.form;
  reported = AddsObjects-item c.args.report.now.form c.loop-record.report.form (IsBadLine c.args.input.now)
      c.args.bad.now c.loop-record.record-index _ c.args.report.now.results.items c.loop-record.report.results.items
      c.report_bad_record.new.report.results.items c.loop-record-test.true c.loop-record.invariant.form
      c.loop-record.invariant.reported c.in_ok-report_bad_record.ensures.reported;
}

pub returns-clause-reported : goal.returns-clause-reported
returns-clause-reported c = AddsObjects-all c.args.report.now.form (IsBadLine c.args.input.now) c.args.bad.now
    c.loop-record.record-index c.args.report.now.results.items c.loop-record.report.results.items
    c.loop-record-test.false c.loop-record.invariant.reported

pub returns-clause-some : goal.returns-clause-some
returns-clause-some c = some_records bad_bytes c.args.bad.now c.is_empty.result c.is_empty.ensures
