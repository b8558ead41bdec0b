-- The object of each name is after the others.
use Rattle.std.proofs.Common.{◌∙◌, ap}
use Rattle.refspec_json.specs.Objects.{line_of, stale_object}
use Rattle.refspec_fetch.specs.Stale.{stale_line}
use Rattle.refspec_fetch.proofs.StaleLemmas.{names-next}
use Rattle.refspec_fetch.proofs.stale.write_objects.Goals as goal

pub loop-name-preserved : goal.loop-name-preserved
loop-name-preserved c = names-next stale_line c.args.names.now c.loop-name.name-index _
    (line_of (stale_object c.as_str.result.now)) c.args.out.now.items c.loop-name.out.items c.write_line.new.out.items
    c.loop-name-test.true (ap (λ x. line_of (stale_object x)) (c.as_str.ensures.value ∙ c.in_ok-name.ensures))
    c.loop-name.invariant c.in_ok-write_line.ensures
