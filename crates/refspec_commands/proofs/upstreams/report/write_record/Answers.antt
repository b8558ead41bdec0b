-- The fields, behind that of the branch.
use Rattle.std.proofs.Common.{ap, option_map}
use Rattle.refspec_io.proofs.ShownLemmas.{on_ok}
use Rattle.refspec_commands.specs.UpstreamViews.{tracking_of}
use Rattle.refspec_commands.proofs.UpstreamLemmas.{alone_fields, named_fields}
use Rattle.refspec_commands.proofs.upstreams.report.write_record.Goals as goal

pub returns-in-None : goal.returns-in-None
returns-in-None c = on_ok c.write_fields.result _ _ c.write_fields.ensures (alone_fields (tracking_of c.args.row.now)
    c.args.out.now.items c.write_fields.new.out.items (ap (option_map (λ n. n.now)) c.in-None.is))

pub returns-in_ok-write_field-in-Some : goal.returns-in_ok-write_field-in-Some
returns-in_ok-write_field-in-Some c =
    on_ok c.write_fields-in-Some.result _ _ c.write_fields-in-Some.ensures (named_fields (tracking_of c.args.row.now) _
    c.args.out.now.items c.write_field.new.out.items c.write_fields-in-Some.new.out.items
    (ap (option_map (λ n. n.now)) c.in-Some.is) c.in_ok-write_field-in-Some.ensures)
