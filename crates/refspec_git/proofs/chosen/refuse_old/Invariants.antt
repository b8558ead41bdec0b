-- no name so far has a file of its own
use Rattle.std.proofs.Common.{◌≡◌, ◌++◌, Bor, List, ℕ}
use Rattle.std.specs.List.{All}
use Rattle.refspec_request.specs.Choices.{HasNoOldForm}
use Rattle.refspec_git.proofs.chosen.refuse_old.Given as goal

abbrev pub invariant-loop-name : goal.invariant-loop-name
invariant-loop-name l = (seen : List (Bor (List ℕ))) × (l.names.keys ≡ seen ++ l.name-iterator)
    × All (λ n. HasNoOldForm l.repository n.now) seen
