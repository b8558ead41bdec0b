-- the refs so far are tracked
use Rattle.std.proofs.Common.{◌≡◌, take}
use Rattle.std.specs.List.{All}
use Rattle.refspec_commands.specs.declared.tracking.answer.Found.TheVariants as how
use Rattle.refspec_commands.proofs.tracking.answer.has_exception.Given as goal

abbrev pub invariant-loop-looked : goal.invariant-loop-looked
invariant-loop-looked l = All (λ x. x.found ≡ how.Tracked) (take l.looked-index l.refs)
