-- the set grew by the names that the mappings so far write
use Rattle.std.proofs.Common.{List, ◌++◌, map, take}
use Rattle.gix_refspec.specs.Matching.Mappings.{Mapped}
use Rattle.gix_refspec.specs.Views.Group.{mapped_of}
use Rattle.refspec_commands.specs.Track.{AreWritten}
use Rattle.refspec_commands.proofs.tracking.answer.add_written.Given as goal

abbrev pub invariant-loop-mapping : goal.invariant-loop-mapping
invariant-loop-mapping l = (before : List Mapped) → AreWritten l.fn.written before → AreWritten l.written (before ++ map
    mapped_of (take l.mapping-index l.mappings))
