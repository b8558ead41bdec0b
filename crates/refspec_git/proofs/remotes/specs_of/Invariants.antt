-- the specs are those of the values so far
use Rattle.std.proofs.Common.{map, take}
use Rattle.gix_refspec.specs.Views.Spec.{reading_of}
use Rattle.refspec_git.specs.Tracking.{AreSpecsIn}
use Rattle.refspec_git.proofs.remotes.specs_of.Given as goal

abbrev pub invariant-loop-value : goal.invariant-loop-value
invariant-loop-value l = AreSpecsIn (take l.value-index l.values) (map reading_of l.specs.items)
