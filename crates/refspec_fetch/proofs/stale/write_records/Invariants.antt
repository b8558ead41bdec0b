-- the fields of the names so far were written
use Rattle.std.proofs.Common.{◌≡◌, ◌++◌, flat_map, map, take}
use Rattle.refspec_fetch.specs.Stale.{name_fields}
use Rattle.refspec_fetch.proofs.stale.write_records.Given as goal

abbrev pub invariant-loop-name : goal.invariant-loop-name
invariant-loop-name l = l.out.items ≡ l.fn.out.items ++ flat_map name_fields
    (map (λ n. n.now) (take l.name-index l.names))
