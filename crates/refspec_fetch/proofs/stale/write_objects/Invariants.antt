-- the objects of the names so far were written
use Rattle.std.proofs.Common.{◌≡◌, ◌++◌, flat_map, map, take}
use Rattle.refspec_fetch.specs.Stale.{stale_line}
use Rattle.refspec_fetch.proofs.stale.write_objects.Given as goal

abbrev pub invariant-loop-name : goal.invariant-loop-name
invariant-loop-name l = l.out.items ≡ l.fn.out.items ++ flat_map stale_line
    (map (λ n. n.now) (take l.name-index l.names))
