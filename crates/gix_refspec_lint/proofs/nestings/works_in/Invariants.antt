use Rattle.gix_refspec_lint.proofs.Common.{◌≡◌, List, length, Reading, IsGroupOf}
use Rattle.gix_refspec_lint.specs.Private.Nestings.{TellWork}
use Rattle.gix_refspec_lint.proofs.nestings.works_in.Given as goal

abbrev pub invariant-loop-index : goal.invariant-loop-index
invariant-loop-index l = (length l.works.items ≡ l.index)
    × ((g : List Reading) → IsGroupOf g l.group → TellWork g l.works.items)
