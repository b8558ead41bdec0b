-- Each member is that of the branch; the advice is left open.
use Rattle.std.proofs.Common.{option_map, ◌∙◌}
use Rattle.refspec_io.proofs.ShownLemmas.{on_ok}
use Rattle.refspec_commands.proofs.UpstreamLemmas.{lack_object-of}
use Rattle.refspec_commands.proofs.upstreams.report.write_lack.Goals as goal

pub returns : goal.returns
returns c = on_ok c.write_line.result _ _ c.write_line.ensures (lack_object-of c.args.lack.now
    (option_map (λ t. t.now) c.as_deref.result) (option_map (λ t. t.now) c.as_deref-2.result) c.as_str.result.now
    c.message.result.now c.as_str-2.result.now c.args.out.now.items c.write_line.new.out.items
    (c.as_deref.ensures.value ∙ c.in_ok-branch.ensures) (c.as_str.ensures.value ∙ c.in_ok-merge.ensures)
    (c.as_deref-2.ensures.value ∙ c.in_ok-spec.ensures))
