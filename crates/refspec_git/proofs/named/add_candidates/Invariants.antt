-- the names grew by the candidates so far
use Rattle.std.proofs.Common.{◌≡◌, ◌++◌, map, take}
use Rattle.bstr.specs.Owned.{bstring_bytes}
use Rattle.refspec_git.proofs.named.add_candidates.Given as goal

abbrev pub invariant-loop-candidate : goal.invariant-loop-candidate
invariant-loop-candidate l = map (λ n. n.items) l.names.items
    ≡ map (λ n. n.items) l.initial.names.items ++ map bstring_bytes (take l.candidate-index l.candidate-items)
