use Rattle.std.proofs.Common.{ap}
use Rattle.gix_refspec.specs.Views.Group.{start_of}
use Rattle.gix_refspec.specs.Views.Spec.{reading_of}
use Rattle.gix_refspec_c.proofs.NamingLemmas.{back_to_a_name}
use Rattle.gix_refspec_c.proofs.naming.map_back.Goals as goal

pub unreachable-requires : goal.unreachable-requires
unreachable-requires c =
    let maps = rw c.in-Ok-Some.field-0-is at c.in-Ok-Some.ensures.ok in
    back_to_a_name _ (reading_of c.args.spec.now) _ _ maps (ap start_of c.in-ObjectId.is)
