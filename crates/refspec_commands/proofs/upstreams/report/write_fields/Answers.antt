-- The fields are the upstream, the merged ref and the text of the spec.
use Rattle.std.proofs.Common.{◌++◌, ◌∙◌, ap}
use Rattle.refspec_io.specs.Shown.{zero_ended}
use Rattle.refspec_io.proofs.RowLemmas.{fields-of}
use Rattle.refspec_io.proofs.ShownLemmas.{on_ok}
use Rattle.refspec_commands.specs.Upstreams.{row_of}
use Rattle.refspec_commands.specs.UpstreamViews.{tracking_of}
use Rattle.refspec_commands.proofs.upstreams.report.write_fields.Goals as goal

pub returns : goal.returns
returns c = on_ok c.write_field-3.result _ _ c.write_field-3.ensures
    (λ last. fields-of (row_of (tracking_of c.args.row.now)) c.args.out.now.items c.write_field.new.out.items
    c.write_field-2.new.out.items c.write_field-3.new.out.items c.in_ok-write_field.ensures
    c.in_ok-write_field-2.ensures
    (last ∙ ap (λ t. c.write_field-2.new.out.items ++ zero_ended t) c.text.ensures))
