-- the ids of the refs so far were read, in order
use Rattle.std.proofs.Common.{map, take}
use Rattle.std.specs.List.{AllZip}
use Rattle.gix_refspec_c.specs.Refs.{IsRefOf, known_ref, ref_text}
use Rattle.gix_refspec_c.proofs.refs.read_refs.Given as goal

abbrev pub invariant-loop-one : goal.invariant-loop-one
invariant-loop-one l = AllZip IsRefOf (take l.one-index (map ref_text l.refs)) (map known_ref l.known.items)
