-- the records so far list refs with the names of the items, and bad has the bad ones
use Rattle.std.proofs.Common.{length, map}
use Rattle.gix_refspec.specs.Views.Group.{ref_of}
use Rattle.refspec_io.specs.Refs.{bad_bytes}
use Rattle.refspec_io.proofs.RefLemmas.{ListsNamesSoFar}
use Rattle.refspec_io.proofs.refs.RefList.read.Given as goal

abbrev pub invariant-loop-rest : goal.invariant-loop-rest
invariant-loop-rest l = ListsNamesSoFar l.end (map ref_of l.reported.items.items) (map bad_bytes l.reported.bad.items)
    l.rest l.input

abbrev pub decreases-loop-rest : goal.decreases-loop-rest
decreases-loop-rest l = length l.rest
