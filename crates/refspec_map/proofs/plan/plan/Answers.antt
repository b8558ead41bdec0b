-- The lines of the outcome of the validation are written.
use Rattle.std.proofs.Common.{map}
use Rattle.gix_refspec.specs.Views.Group.{ref_of}
use Rattle.refspec_map.proofs.MatchingLemmas.{conflicts_shown, validated_shown}
use Rattle.refspec_map.proofs.plan.plan.Goals as goal

pub returns-in-Ok-clause-ok : goal.returns-in-Ok-clause-ok
returns-in-Ok-clause-ok c = validated_shown c.args.group c.in_ok-outcome.outcome.group (map ref_of c.args.items.now)
    c.in_ok-outcome.outcome.mappings.items c.in-Ok.valid.mappings.items c.as_slice.result.now c.in-Ok.fixes.items
    c.as_slice-in-Ok.result.now c.in_ok-lines-in-Ok.lines.items c.append_fixes.new.output.items
    c.in_ok-outcome.ensures.ok.0 c.in_ok-outcome.ensures.ok.1 c.in-Ok.ensures.ok.1 c.as_slice.ensures.value
    c.in_ok-lines-in-Ok.ensures.ok c.as_slice-in-Ok.ensures.value c.in_ok-append_fixes-in-Ok.ensures.ok

pub returns-in-Err-Conflicts-clause-ok : goal.returns-in-Err-Conflicts-clause-ok
returns-in-Err-Conflicts-clause-ok c = conflicts_shown c.args.group c.in_ok-outcome.outcome.group
    (map ref_of c.args.items.now) c.in_ok-outcome.outcome.mappings.items c.in-Err-Conflicts.error.issues.items
    c.as_slice-in-Err-Conflicts.result.now c.in_ok-lines_of-in-Err-Conflicts.field-0.items c.in_ok-outcome.ensures.ok.0
    c.in_ok-outcome.ensures.ok.1 (rw c.in-Err-Conflicts.field-0-is at c.in-Err-Conflicts.ensures.conflicts)
    c.as_slice-in-Err-Conflicts.ensures.value c.in_ok-lines_of-in-Err-Conflicts.ensures.ok
