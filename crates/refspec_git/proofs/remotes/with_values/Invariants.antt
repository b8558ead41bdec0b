-- the remotes are those of the entries so far
use Rattle.std.proofs.Common.{map}
use Rattle.std.specs.Map.Iter.{deref_pair}
use Rattle.refspec_git.specs.Tracking.{AreRemotesIn}
use Rattle.refspec_git.proofs.remotes.with_values.Given as goal

abbrev pub invariant-loop-name : goal.invariant-loop-name
invariant-loop-name l = AreRemotesIn (map deref_pair l.yielded) l.remotes.items
