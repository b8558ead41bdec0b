-- the warnings on the conflicts so far
use Rattle.std.proofs.Common.{map, take}
use Rattle.std.specs.List.{AllZip}
use Rattle.gix_refspec_lint.specs.Views.Lint.{example_of}
use Rattle.refspec_io.specs.Texts.{given_of}
use Rattle.refspec_commands.specs.Warned.{IsConflictSaid}
use Rattle.refspec_commands.specs.WarnedViews.{said_of}
use Rattle.refspec_commands.proofs.warnings.conflicts.warnings_on.Given as goal

abbrev pub invariant-loop-conflict : goal.invariant-loop-conflict
invariant-loop-conflict l = AllZip (IsConflictSaid (map given_of l.texts)) (map example_of
    (take l.conflict-index l.conflicts)) (map said_of l.warnings.items)
