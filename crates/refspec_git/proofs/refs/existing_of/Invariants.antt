-- the refs are those in the lines so far
use Rattle.std.proofs.Common.{map, take}
use Rattle.refspec_git.specs.Refs.{AreRefs}
use Rattle.refspec_git.proofs.refs.existing_of.Given as goal

abbrev pub invariant-loop-line : goal.invariant-loop-line
invariant-loop-line l = AreRefs (map (λ r. r.now) (take l.line-index l.line-items)) l.existing
