-- the items have the names so far
use Rattle.std.proofs.Common.{◌≡◌, map, take}
use Rattle.gix_refspec.specs.Views.Group.{ref_of}
use Rattle.refspec_git.proofs.tracking.items_of.Given as goal

abbrev pub invariant-loop-name : goal.invariant-loop-name
invariant-loop-name l = map (λ i. (ref_of i).name) l.items.items ≡ map (λ n. n.items) (take l.name-index l.names)
