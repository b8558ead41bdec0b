-- the names are those of the arguments so far
use Rattle.std.proofs.Common.{◌≡◌, map, take}
use Rattle.std.specs.List.{flat_map}
use Rattle.refspec_git.specs.Named.{listed_for}
use Rattle.refspec_git.proofs.named.names_to_list.Given as goal

abbrev pub invariant-loop-one : goal.invariant-loop-one
invariant-loop-one l = map (λ n. n.items) l.names.items ≡ flat_map listed_for (take l.one-index l.named)
