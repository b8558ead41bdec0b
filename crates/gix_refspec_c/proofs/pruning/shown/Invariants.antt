-- the structs so far are those of the refs so far
use Rattle.std.proofs.Common.{map, take}
use Rattle.gix_refspec_plan.specs.Views.Stale.{found_of}
use Rattle.gix_refspec_c.specs.Stale.{AreShown}
use Rattle.gix_refspec_c.proofs.pruning.shown.Given as goal

abbrev pub invariant-loop-one : goal.invariant-loop-one
invariant-loop-one l = AreShown (map found_of (take l.one-index l.stale)) l.structs.items
