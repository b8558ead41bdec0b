-- the kept ones are among those so far
use Rattle.std.proofs.Common.{map, take}
use Rattle.bstr.specs.BStr.{bstr_bytes}
use Rattle.refspec_git.specs.Fetch.{AreAmong}
use Rattle.refspec_git.proofs.specs.kept_merges.Given as goal

abbrev pub invariant-loop-merge : goal.invariant-loop-merge
invariant-loop-merge l =
    AreAmong (map (λ m. m.now) (take l.merge-index l.merges)) (map bstr_bytes l.kept.items)
