-- the length of the texts of the mappings so far
use Rattle.std.proofs.Common.{◌≡◌, flat_map, length, take}
use Rattle.gix_refspec_c.specs.Kept.{entries_of}
use Rattle.gix_refspec_c.specs.Mapping.{text_of}
use Rattle.gix_refspec_c.proofs.kept.Kept.texts_len.Given as goal

abbrev pub invariant-loop-index : goal.invariant-loop-index
invariant-loop-index l = l.len ≡ length (flat_map text_of (take l.index (entries_of l.self)))
