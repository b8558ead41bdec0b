-- what the branches so far merge
use Rattle.std.proofs.Common.{List, take}
use Rattle.std.specs.List.{AllZip}
use Rattle.refspec_io.specs.declared.settings.Setting.{Setting}
use Rattle.refspec_git.specs.Upstreams.{HaveSpecs, IsMergedBy}
use Rattle.refspec_git.proofs.upstreams.question_of.Given as goal

abbrev pub invariant-loop-one : goal.invariant-loop-one
invariant-loop-one l = (settings : List Setting) → HaveSpecs settings l.specs
    → AllZip (IsMergedBy settings) (take l.one-index l.branches) l.merged.items
