-- the items are the refs with the names so far
use Rattle.std.proofs.Common.{◌≡◌, map, take}
use Rattle.gix_refspec.specs.Views.Group.{ref_of}
use Rattle.refspec_commands.specs.Track.{named}
use Rattle.refspec_commands.proofs.track.items_named.Given as goal

abbrev pub invariant-loop-name : goal.invariant-loop-name
invariant-loop-name l = map ref_of l.items.items ≡ map named (map (λ n. n.now) (take l.name-index l.names))
