-- With no others, what is requested is that for the group alone.
use Rattle.gix_refspec.proofs.Common.{readings_of}
use Rattle.gix_refspec.proofs.lemmas.prefixes.NeededLemmas.{request_needed}
use Rattle.gix_refspec.proofs.lemmas.prefixes.RequestLemmas.{err_weaker, group_beside, request_apart, request_serves}
use Rattle.gix_refspec.proofs.match_group.types.MatchGroup.ref_prefixes.Goals as goal
use Rattle.std.proofs.lemmas.Result.{IfOk-weaker}

pub returns-clause-ok : goal.returns-clause-ok
returns-clause-ok c = rw c.new.ensures.items at c.ref_prefixes_beside.ensures.ok

pub returns-clause-serves : goal.returns-clause-serves
returns-clause-serves c = IfOk-weaker c.ref_prefixes_beside.result _ _ (request_serves (readings_of c.args.self.now))
    (rw c.new.ensures.items at c.ref_prefixes_beside.ensures.ok)

pub returns-clause-apart : goal.returns-clause-apart
returns-clause-apart c = IfOk-weaker c.ref_prefixes_beside.result _ _ (request_apart (readings_of c.args.self.now))
    (rw c.new.ensures.items at c.ref_prefixes_beside.ensures.ok)

pub returns-clause-needed : goal.returns-clause-needed
returns-clause-needed c = IfOk-weaker c.ref_prefixes_beside.result _ _ (request_needed (readings_of c.args.self.now))
    (rw c.new.ensures.items at c.ref_prefixes_beside.ensures.ok)

pub returns-clause-memory : goal.returns-clause-memory
returns-clause-memory c = err_weaker c.ref_prefixes_beside.result _ _
    (λ other lists. other (group_beside (readings_of c.args.self.now) lists))
    (rw c.new.ensures.items at c.ref_prefixes_beside.ensures.memory)
