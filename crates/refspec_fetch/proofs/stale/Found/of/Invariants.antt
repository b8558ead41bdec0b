-- the refs so far, parted
use Rattle.std.proofs.Common.{map, take}
use Rattle.bstr.specs.Owned.{bstring_bytes}
use Rattle.gix_refspec.specs.Views.Group.{ref_of}
use Rattle.gix_refspec_plan.specs.Views.Stale.{found_of}
use Rattle.refspec_fetch.specs.Stale.{AreParted}
use Rattle.refspec_fetch.proofs.stale.Found.of.Given as goal

abbrev pub invariant-loop-one : goal.invariant-loop-one
invariant-loop-one l = AreParted (map bstring_bytes l.texts) (map ref_of l.local)
    (map found_of (take l.one-index l.stale)) l.found
