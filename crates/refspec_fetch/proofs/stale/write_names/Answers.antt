-- Each name is after the others.
use Rattle.std.proofs.Common.{◌∙◌, refl}
use Rattle.refspec_io.proofs.ShownLemmas.{AddsNames-none}
use Rattle.refspec_fetch.proofs.StaleLemmas.{AddsNames-next}
use Rattle.refspec_fetch.proofs.stale.write_names.Goals as goal

pub loop-name-init : goal.loop-name-init
loop-name-init c =
    record {
      form = refl;
      reported = AddsNames-none c.args.report.now.form c.args.before.now
          c.args.report.now.results.items c.args.report.now.results.items refl;
    }

pub loop-name-preserved : goal.loop-name-preserved
loop-name-preserved c = record {
  form = c.in_ok-write_name.ensures.form ∙ c.loop-name.invariant.form;
  reported = AddsNames-next c.args.report.now.form c.loop-name.report.form c.args.before.now c.args.names.now
      c.loop-name.name-index _ c.args.report.now.results.items c.loop-name.report.results.items
      c.write_name.new.self.results.items c.loop-name-test.true c.loop-name.invariant.form
      c.loop-name.invariant.reported c.in_ok-write_name.ensures.reported;
}
