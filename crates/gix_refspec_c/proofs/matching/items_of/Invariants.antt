-- the items so far have the names so far
use Rattle.std.proofs.Common.{◌≡◌, map, take}
use Rattle.gix_refspec.specs.Views.Group.{ref_of}
use Rattle.gix_refspec_c.specs.Group.{bytes_of}
use Rattle.gix_refspec_c.specs.Matching.{nameless}
use Rattle.gix_refspec_c.proofs.matching.items_of.Given as goal

abbrev pub invariant-loop-name : goal.invariant-loop-name
invariant-loop-name l = map ref_of l.items.items ≡ map nameless (map bytes_of (take l.name-index l.names))
