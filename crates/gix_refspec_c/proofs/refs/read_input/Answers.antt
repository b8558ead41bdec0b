-- The specs are read, then the ids of the refs; if an id is asked for, each target has to be known.
use Rattle.std.proofs.Common.{map, refl}
use Rattle.gix_refspec.specs.Views.Group.{readings_of}
use Rattle.gix_refspec_c.specs.Refs.{no_target, ref_text, spec_text}
use Rattle.gix_refspec_c.proofs.RefsLemmas.{refs_unread}
use Rattle.gix_refspec_c.proofs.refs.read_input.Goals as goal

pub returns-in-Err-read_refs-clause-err : goal.returns-in-Err-read_refs-clause-err
returns-in-Err-read_refs-clause-err c =
    refs_unread c.args.direction (map spec_text c.args.specs.now) (map ref_text c.args.refs.now)
    c.in-Err-read_refs.failure (readings_of c.in-Ok.group) c.in-Ok.ensures.ok c.in-Err-read_refs.ensures.err

pub returns-then-lacks_target-clause-err : goal.returns-then-lacks_target-clause-err
returns-then-lacks_target-clause-err c = no_target (readings_of c.in-Ok.group) c.in-Ok.ensures.ok refl
    (rw c.if-lacks_target.true at c.lacks_target.ensures)
