-- the warnings on the directory conflicts so far
use Rattle.std.proofs.Common.{map, take}
use Rattle.std.specs.List.{AllZip}
use Rattle.gix_refspec_lint.specs.Views.Lint.{nesting_of}
use Rattle.refspec_io.specs.Texts.{given_of}
use Rattle.refspec_commands.specs.Warned.{IsNestingSaid}
use Rattle.refspec_commands.specs.WarnedViews.{said_of}
use Rattle.refspec_commands.proofs.warnings.directories.warnings_on.Given as goal

abbrev pub invariant-loop-conflict : goal.invariant-loop-conflict
invariant-loop-conflict l = AllZip (IsNestingSaid (map given_of l.texts)) (map nesting_of
    (take l.conflict-index l.conflicts)) (map said_of l.warnings.items)
