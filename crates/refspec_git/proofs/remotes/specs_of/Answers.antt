-- Each value adds its spec.
use Rattle.std.proofs.Common.{List, map, subst, take_all}
use Rattle.gix_refspec.specs.Views.Spec.{reading_of}
use Rattle.refspec_io.specs.declared.settings.Setting.{Setting}
use Rattle.refspec_git.specs.Tracking.{AreSpecsIn}
use Rattle.refspec_git.proofs.TrackingLemmas.{AreSpecsIn-next}
use Rattle.refspec_git.proofs.remotes.specs_of.Goals as goal

pub loop-value-preserved : goal.loop-value-preserved
loop-value-preserved c =
    AreSpecsIn-next c.args.values.now c.loop-value.value-index _ (map reading_of c.loop-value.specs.items)
    (map reading_of c.add_spec.new.specs.items) c.loop-value-test.true c.in_ok-add_spec.ensures
    c.loop-value.invariant

pub returns : goal.returns
returns c =
    subst (λ (l : List Setting). AreSpecsIn l (map reading_of c.loop-value.specs.items))
    (take_all c.loop-value.value-index c.args.values.now c.loop-value-test.false) c.loop-value.invariant
