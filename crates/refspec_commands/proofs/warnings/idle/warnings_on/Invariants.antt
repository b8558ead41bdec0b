-- the warnings on the idle specs so far
use Rattle.std.proofs.Common.{map, take}
use Rattle.std.specs.List.{AllZip}
use Rattle.gix_refspec_lint.specs.Views.Lint.{unused_of}
use Rattle.refspec_io.specs.Texts.{given_of}
use Rattle.refspec_commands.specs.Warned.{IsIdleSaid}
use Rattle.refspec_commands.specs.WarnedViews.{said_of}
use Rattle.refspec_commands.proofs.warnings.idle.warnings_on.Given as goal

abbrev pub invariant-loop-spec : goal.invariant-loop-spec
invariant-loop-spec l = AllZip (IsIdleSaid (map given_of l.group.texts.items))
    (map unused_of (take l.spec-index l.idle))
    (map said_of l.warnings.items)
