-- Each ref is reported after the others.
use Rattle.std.proofs.Common.{◌∙◌, refl}
use Rattle.refspec_io.proofs.JsonLemmas.{AddsObjects-next, AddsObjects-start}
use Rattle.refspec_fetch.specs.Stale.{IsKeptLine, kept_of}
use Rattle.refspec_fetch.proofs.stale.report_kept.Goals as goal

pub loop-one-init : goal.loop-one-init
loop-one-init c =
    record {
      form = refl;
      reported = AddsObjects-start c.args.report.now.form IsKeptLine
          c.args.report.now.results.items;
    }

pub loop-one-preserved : goal.loop-one-preserved
loop-one-preserved c = record {
  form = c.in_ok-report_one_kept.ensures.form ∙ c.loop-one.invariant.form;
  reported = AddsObjects-next c.args.report.now.form c.loop-one.report.form IsKeptLine kept_of c.args.kept.now
      c.loop-one.one-index _ _ c.args.report.now.results.items c.loop-one.report.results.items
      c.report_one_kept.new.report.results.items c.loop-one-test.true c.loop-one.invariant.form refl
      c.loop-one.invariant.reported c.in_ok-report_one_kept.ensures.reported;
}
