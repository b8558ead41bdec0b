-- The outcome has the mappings that the group keeps.
use Rattle.std.proofs.Common.{map, ap}
use Rattle.gix_refspec.specs.Views.Group.{mapped_of, readings_of, ref_of}
use Rattle.gix_refspec_c.proofs.MatchingLemmas.{lists_forward, lists_backward}
use Rattle.gix_refspec_c.proofs.matching.kept_over.Goals as goal

pub returns-in-Ok-clause-ok : goal.returns-in-Ok-clause-ok
returns-in-Ok-clause-ok c =
    lists_forward c.args.direction (readings_of c.args.group) (readings_of c.in-Ok.outcome.group)
    (map ref_of c.args.items.now) (map mapped_of c.in-Ok.outcome.mappings.items) c.in-Forward.is
    (ap readings_of c.in-Ok.ensures.ok.0) c.in-Ok.ensures.ok.1

pub returns-in-Ok-match_rhs-clause-ok : goal.returns-in-Ok-match_rhs-clause-ok
returns-in-Ok-match_rhs-clause-ok c =
    lists_backward c.args.direction (readings_of c.args.group) (readings_of c.in-Ok-match_rhs.outcome.group)
    (map ref_of c.args.items.now) (map mapped_of c.in-Ok-match_rhs.outcome.mappings.items) c.in-Backward.is
    (ap readings_of c.in-Ok-match_rhs.ensures.ok.0) c.in-Ok-match_rhs.ensures.ok.1
