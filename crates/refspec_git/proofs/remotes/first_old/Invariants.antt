-- none so far has a form of its own
use Rattle.std.proofs.Common.{take}
use Rattle.std.specs.List.{All}
use Rattle.refspec_request.specs.Choices.{HasNoOldForm}
use Rattle.refspec_git.proofs.remotes.first_old.Given as goal

abbrev pub invariant-loop-old : goal.invariant-loop-old
invariant-loop-old l = All (λ o. HasNoOldForm l.repository o.name.items) (take l.old-index l.old-items)
