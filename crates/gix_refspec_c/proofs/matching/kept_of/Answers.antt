-- What the group keeps over the names with the null id is what is matched.
use Rattle.std.proofs.Common.{map, ap, ◌∙◌}
use Rattle.gix_refspec.specs.Views.Group.{readings_of, ref_of}
use Rattle.gix_refspec_c.specs.Group.{bytes_of}
use Rattle.gix_refspec_c.proofs.MatchingLemmas.{lists_matched}
use Rattle.gix_refspec_c.proofs.matching.kept_of.Goals as goal

pub returns-in-Ok-clause-ok : goal.returns-in-Ok-clause-ok
returns-in-Ok-clause-ok c =
    lists_matched c.args.direction (map bytes_of c.args.texts.now) (map bytes_of c.args.names.now)
    (readings_of c.in_ok-group.group) (map ref_of c.as_slice.result.now) c.kept_over.result c.in_ok-group.ensures.ok
    (rw c.if-lacks_ids.false at c.lacks_ids.ensures) (ap (map ref_of) c.as_slice.ensures.value ∙ c.in-Ok.ensures)
    c.kept_over.ensures.ok
