-- There are no others.
use Rattle.gix_refspec_plan.proofs.Common.{[], append-nil, map, mapped_of}
use Rattle.gix_refspec_plan.proofs.verdicts.only_verdicts.Goals as goal

pub returns : goal.returns
returns c = c.first_verdicts.ensures [] (rw (append-nil (map mapped_of c.args.mappings.now)) c.in_ok-nested.ensures)
