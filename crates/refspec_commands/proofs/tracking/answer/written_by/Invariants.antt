-- the set contains the names that the remotes so far write
use Rattle.std.proofs.Common.{take}
use Rattle.refspec_commands.specs.Answer.{mappings_in}
use Rattle.refspec_commands.specs.Track.{AreWritten}
use Rattle.refspec_commands.proofs.tracking.answer.written_by.Given as goal

abbrev pub invariant-loop-remote : goal.invariant-loop-remote
invariant-loop-remote l = AreWritten l.written (mappings_in (take l.remote-index l.remotes))
