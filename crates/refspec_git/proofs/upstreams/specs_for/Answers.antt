-- Without a remote there are none.
use Rattle.std.proofs.Common.{◌∙◌, List, map, option_map, subst, sym}
use Rattle.gix_refspec.specs.Views.Spec.{reading_of}
use Rattle.gix_refspec_text.specs.declared.spec.RefSpecRef.{RefSpecRef}
use Rattle.refspec_git.specs.Tracking.{AreSpecsIn}
use Rattle.refspec_git.specs.Upstreams.{values_for}
use Rattle.refspec_git.proofs.UpstreamLemmas.{for_none, for_some}
use Rattle.refspec_git.proofs.upstreams.specs_for.Goals as goal

pub returns-in_default : goal.returns-in_default
returns-in_default c = λ settings are.
    subst (λ (l : List RefSpecRef). AreSpecsIn (values_for settings (option_map (λ n. n.now) c.args.remote))
    (map reading_of l)) (sym (c.as_slice.ensures.value ∙ are.1)) (for_none settings c.args.remote c.in_default.is)

pub returns : goal.returns
returns c = λ settings are.
    for_some settings c.args.remote c.in-Some.name _ c.in-Some.is (c.specs_named.ensures settings are)
