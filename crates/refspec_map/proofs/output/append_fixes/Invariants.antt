use Rattle.std.proofs.Common.{map, take}
use Rattle.gix_refspec.specs.Views.Issue.{removed_of}
use Rattle.refspec_map.specs.Plan.{AppendsFixes}
use Rattle.refspec_map.proofs.output.append_fixes.Given as goal

-- the lines of the fixes so far were appended to the old output
abbrev pub invariant-loop-fix : goal.invariant-loop-fix
invariant-loop-fix l = AppendsFixes (map removed_of (take l.fix-index l.fixes)) l.fn.output.items l.output.items
