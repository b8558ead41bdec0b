-- The first candidate that the remote has, or the name of a new ref.
use Rattle.refspec_git.proofs.FateLemmas.{means_first, means_new}
use Rattle.refspec_git.proofs.fates.full_name.Goals as goal

pub returns-in-None : goal.returns-in-None
returns-in-None c = means_new c.args.refs.now c.args.name.now c.in_ok-all.all.items c.as_slice.result.now
    c.written_name.result c.in_ok-all.ensures c.as_slice.ensures.value (rw c.in-None.is at c.first_listed.ensures)
    c.written_name.ensures

pub returns : goal.returns
returns c = means_first c.args.refs.now c.args.name.now c.in_ok-all.all.items c.as_slice.result.now
    c.in-Some.first.now c.joined.result c.in_ok-all.ensures c.as_slice.ensures.value
    (rw c.in-Some.is at c.first_listed.ensures) c.joined.ensures
