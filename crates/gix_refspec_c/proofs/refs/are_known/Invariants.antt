-- whether the targets so far are known
use Rattle.std.proofs.Common.{◌≡◌, map, take}
use Rattle.std.specs.List.{list_all}
use Rattle.gix_refspec_c.specs.Refs.{is_known, ref_text}
use Rattle.gix_refspec_c.proofs.refs.are_known.Given as goal

abbrev pub invariant-loop-one : goal.invariant-loop-one
invariant-loop-one l = l.all ≡ list_all is_known (map ref_text (take l.one-index l.refs))
