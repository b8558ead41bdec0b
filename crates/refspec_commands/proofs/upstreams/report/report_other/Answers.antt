-- The merged ref itself is a row, and each other case a lack.
use Rattle.refspec_io.proofs.ShownLemmas.{on_ok}
use Rattle.refspec_commands.proofs.UpstreamLemmas.{other_lack, other_row}
use Rattle.refspec_commands.proofs.upstreams.report.report_other.Goals as goal

pub returns-in-Here-clause-reported : goal.returns-in-Here-clause-reported
returns-in-Here-clause-reported c = on_ok c.write_row.result _ _ c.write_row.ensures
    (other_row c.args.report.now.form c.args.lack.now _ _ c.args.report.now.results.items c.write_row.new.out.items
    c.in-Here.is (λ line row. row))

pub returns-in-Remote-clause-reported : goal.returns-in-Remote-clause-reported
returns-in-Remote-clause-reported c = on_ok c.report_lack.result _ _ c.report_lack.ensures.reported
    (other_lack c.args.report.now.form c.args.lack.now _ c.args.report.now.results.items
    c.report_lack.new.report.results.items c.in-Remote.is (λ line lack. lack))

pub returns-in-NoRemote-clause-reported : goal.returns-in-NoRemote-clause-reported
returns-in-NoRemote-clause-reported c =
    on_ok c.report_lack-in-NoRemote.result _ _ c.report_lack-in-NoRemote.ensures.reported
    (other_lack c.args.report.now.form c.args.lack.now _ c.args.report.now.results.items
    c.report_lack-in-NoRemote.new.report.results.items c.in-NoRemote.is (λ line lack. lack))

pub returns-in-NoMerge-clause-reported : goal.returns-in-NoMerge-clause-reported
returns-in-NoMerge-clause-reported c =
    on_ok c.report_lack-in-NoMerge.result _ _ c.report_lack-in-NoMerge.ensures.reported
    (other_lack c.args.report.now.form c.args.lack.now _ c.args.report.now.results.items
    c.report_lack-in-NoMerge.new.report.results.items c.in-NoMerge.is (λ line lack. lack))
