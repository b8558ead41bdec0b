-- Only where the refs of the remote are known is there a plan.
use Rattle.std.proofs.Common.{IfOk, None, map, refl, subst, sym}
use Rattle.gix_refspec.specs.Views.Group.{ref_of}
use Rattle.gix_refspec.specs.Views.Spec.{reading_of}
use Rattle.refspec_commands.specs.declared.fates.question.Known.{Known}
use Rattle.refspec_commands.specs.Fates.{IsStopOf}
use Rattle.refspec_commands.proofs.fates.stops.stop_of.Goals as goal

pub returns-in-Assumed : goal.returns-in-Assumed
returns-in-Assumed c =
    subst (λ (k : Known). IsStopOf k (map reading_of c.args.specs.now) (map ref_of c.args.refs.now) None)
    (sym c.in-Assumed.is) refl

pub returns-in-Listed : goal.returns-in-Listed
returns-in-Listed c =
    subst
    (λ (k : Known). IfOk c.stop_among.result
    (IsStopOf k (map reading_of c.args.specs.now) (map ref_of c.args.refs.now)))
    (sym c.in-Listed.is) c.stop_among.ensures
