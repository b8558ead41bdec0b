-- the items so far are the refs so far
use Rattle.std.proofs.Common.{◌≡◌, map, take}
use Rattle.gix_refspec.specs.Views.Group.{ref_of}
use Rattle.gix_refspec_c.specs.Refs.{known_ref}
use Rattle.gix_refspec_c.proofs.refs.items_of.Given as goal

abbrev pub invariant-loop-one : goal.invariant-loop-one
invariant-loop-one l = map ref_of l.items.items ≡ map known_ref (take l.one-index l.refs)
