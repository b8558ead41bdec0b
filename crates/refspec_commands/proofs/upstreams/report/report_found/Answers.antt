-- There is a row for an upstream, and else what is reported where no spec stores the ref.
use Rattle.std.proofs.Common.{None, Some, ap, refl, ◌∙◌}
use Rattle.bstr.specs.Owned.{bstring_bytes}
use Rattle.gix_refspec_remote.specs.Views.{shown}
use Rattle.refspec_io.proofs.ShownLemmas.{on_ok}
use Rattle.refspec_commands.proofs.UpstreamLemmas.{found_other, found_row, tracking_same}
use Rattle.refspec_commands.proofs.upstreams.report.report_found.Goals as goal

pub returns-in-Tracked-clause-reported : goal.returns-in-Tracked-clause-reported
returns-in-Tracked-clause-reported c = on_ok c.write_row.result _ _ c.write_row.ensures
    (found_row c.args.report.now.form c.args.found.now _ _ _ c.args.report.now.results.items c.write_row.new.out.items
    (ap shown c.in-Tracked.is)
    (c.tracked_row-row.ensures ∙ tracking_same _ _ _ _ _ _ (c.as_bytes.ensures ∙ c.as_bstr.ensures) refl))

pub returns-in-Excluded-clause-reported : goal.returns-in-Excluded-clause-reported
returns-in-Excluded-clause-reported c = on_ok c.report_other.result _ _ c.report_other.ensures.reported
    (λ one. found_other c.args.report.now.form c.args.found.now _ (Some c.as_bytes-text.result.now)
    (Some (bstring_bytes c.args.found.now.text)) c.args.report.now.results.items c.report_other.new.report.results.items
    one.0 (ap shown c.in-Excluded.is) (ap Some c.as_bytes-text.ensures) (λ is. is) one.1 one.2)

pub returns-in-NotStored-clause-reported : goal.returns-in-NotStored-clause-reported
returns-in-NotStored-clause-reported c =
    on_ok c.report_other-in-NotStored.result _ _ c.report_other-in-NotStored.ensures.reported
    (λ one. found_other c.args.report.now.form c.args.found.now _ (Some c.as_bytes-text.result.now)
    (Some (bstring_bytes c.args.found.now.text)) c.args.report.now.results.items
    c.report_other-in-NotStored.new.report.results.items one.0 (ap shown c.in-NotStored.is)
    (ap Some c.as_bytes-text.ensures) (λ is. is) one.1 one.2)

pub returns-in-NotFetched-clause-reported : goal.returns-in-NotFetched-clause-reported
returns-in-NotFetched-clause-reported c =
    on_ok c.report_other-in-NotFetched.result _ _ c.report_other-in-NotFetched.ensures.reported
    (λ one. found_other c.args.report.now.form c.args.found.now _ None None c.args.report.now.results.items
    c.report_other-in-NotFetched.new.report.results.items one.0 (ap shown c.in-NotFetched.is) refl (λ is. is) one.1
    one.2)
