-- the structs and the texts of the mappings so far are written
use Rattle.std.proofs.Common.{◌≡◌, flat_map, length, take}
use Rattle.gix_refspec_c.specs.Kept.{Fills, entries_of}
use Rattle.gix_refspec_c.specs.Mapping.{text_of}
use Rattle.gix_refspec_c.proofs.kept.fill.Given as goal

abbrev pub invariant-loop-index : goal.invariant-loop-index
invariant-loop-index l = (l.at ≡ length (flat_map text_of (take l.index (entries_of l.kept))))
    × Fills (take l.index (entries_of l.kept)) l.fn.mappings l.fn.buffer l.mappings l.buffer
