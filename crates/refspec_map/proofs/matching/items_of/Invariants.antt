use Rattle.std.proofs.Common.{◌≡◌, map, take}
use Rattle.gix_refspec.specs.Views.Group.{ref_of}
use Rattle.refspec_map.specs.Parsed.{parsed_ref}
use Rattle.refspec_map.proofs.matching.items_of.Given as goal

-- the items are the refs so far
abbrev pub invariant-loop-told : goal.invariant-loop-told
invariant-loop-told l = map ref_of l.items.items ≡ map parsed_ref (take l.told-index l.refs)
