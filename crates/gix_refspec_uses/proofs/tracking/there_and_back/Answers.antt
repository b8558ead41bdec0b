-- The copy has the specs of the group.
use Rattle.std.proofs.Common.{List, map, ap, subst}
use Rattle.gix_refspec.specs.Specs.Reading.{Reading}
use Rattle.gix_refspec.specs.Views.Spec.{reading_of}
use Rattle.gix_refspec.specs.Views.Group.{mapped_of, ref_of}
use Rattle.gix_refspec_uses.specs.Tracking.{TellsBranches}
use Rattle.gix_refspec_uses.proofs.tracking.there_and_back.Goals as goal

pub returns-clause-there : goal.returns-clause-there
returns-clause-there c =
    subst (λ (g : List Reading). TellsBranches g (ref_of c.args.remote.now)
    (map mapped_of c.in-Ok-tracking_branches.there.mappings.items)) (ap (map reading_of) c.in-Ok.ensures)
    c.in-Ok-tracking_branches.ensures.exactly
