-- the refs so far are those that aren't symbolic among the lines
use Rattle.std.proofs.Common.{map, take}
use Rattle.gix_refspec.specs.Views.Group.{ref_of}
use Rattle.gix_refspec_match.specs.Matching.Lists.{IsMadeFrom}
use Rattle.refspec_git.specs.Fetch.{IsWhole}
use Rattle.refspec_git.proofs.plan.items_here.Given as goal

abbrev pub invariant-loop-line : goal.invariant-loop-line
invariant-loop-line l = IsMadeFrom IsWhole 0 (map (λ r. r.now) (take l.line-index l.line-items))
    (map (λ r. r.name) (map ref_of l.items.items))
