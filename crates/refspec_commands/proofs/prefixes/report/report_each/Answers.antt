-- Each prefix is reported after the others.
use Rattle.std.proofs.Common.{List, ap, map, refl, subst, take_all, ◌∙◌}
use Rattle.bstr.specs.Owned.{bstring_bytes}
use Rattle.bstr.specs.declared.bstring.BString.{BString}
use Rattle.refspec_commands.specs.Prefixes.{AddsRequests}
use Rattle.refspec_commands.proofs.PrefixLemmas.{AddsRequests-next, AddsRequests-start}
use Rattle.refspec_commands.proofs.prefixes.report.report_each.Goals as goal

pub loop-prefix-init : goal.loop-prefix-init
loop-prefix-init c =
    record {
      form = refl;
      reported = AddsRequests-start c.args.notation c.args.report.now.form
          c.args.report.now.results.items;
    }

pub loop-prefix-preserved : goal.loop-prefix-preserved
loop-prefix-preserved c = record {
  form = c.in_ok-report_prefix.ensures.form ∙ c.loop-prefix.invariant.form;
  reported = AddsRequests-next c.args.notation c.args.report.now.form c.loop-prefix.report.form c.args.prefixes.now
      c.loop-prefix.prefix-index c.prefix-item.result c.as_bytes.result.now c.args.report.now.results.items
      c.loop-prefix.report.results.items c.report_prefix.new.report.results.items c.loop-prefix-test.true
      c.loop-prefix.invariant.form (c.as_bytes.ensures ∙ ap bstring_bytes c.prefix-item.is)
      c.loop-prefix.invariant.reported c.in_ok-report_prefix.ensures.reported;
}

pub returns : goal.returns
returns c = subst (λ (l : List BString). AddsRequests c.args.notation c.args.report.now.form (map bstring_bytes l)
    c.args.report.now.results.items c.loop-prefix.report.results.items)
    (take_all c.loop-prefix.prefix-index c.args.prefixes.now c.loop-prefix-test.false) c.loop-prefix.invariant.reported
