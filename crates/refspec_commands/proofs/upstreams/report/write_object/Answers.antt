-- Each member is that of the row.
use Rattle.std.proofs.Common.{option_map, ◌∙◌}
use Rattle.refspec_io.proofs.ShownLemmas.{on_ok}
use Rattle.refspec_commands.specs.UpstreamViews.{tracking_of}
use Rattle.refspec_commands.proofs.UpstreamLemmas.{object-of}
use Rattle.refspec_commands.proofs.upstreams.report.write_object.Goals as goal

pub returns : goal.returns
returns c = on_ok c.write_line.result _ _ c.write_line.ensures (object-of (tracking_of c.args.row.now)
    (option_map (λ t. t.now) c.as_deref.result) c.as_str.result.now c.as_str-2.result.now
    (option_map (λ t. t.now) c.as_deref-spec.result) c.args.out.now.items c.write_line.new.out.items
    (c.as_deref.ensures.value ∙ c.in_ok-branch.ensures) (c.as_str.ensures.value ∙ c.in_ok-merge.ensures)
    (c.as_str-2.ensures.value ∙ c.in_ok-name.ensures) (c.as_deref-spec.ensures.value ∙ c.in_ok-text.ensures))
