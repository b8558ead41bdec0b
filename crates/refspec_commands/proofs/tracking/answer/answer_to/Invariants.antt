-- what each remote so far writes
use Rattle.std.proofs.Common.{map, take}
use Rattle.std.specs.List.{AllZip}
use Rattle.gix_refspec.specs.Views.Group.{ref_of}
use Rattle.refspec_commands.specs.Answer.{IsTracked}
use Rattle.refspec_commands.proofs.tracking.answer.answer_to.Given as goal

abbrev pub invariant-loop-remote : goal.invariant-loop-remote
invariant-loop-remote l = AllZip (IsTracked (map ref_of l.question.refs.items)) (take l.remote-index
    l.question.remotes.items) l.remotes.items
