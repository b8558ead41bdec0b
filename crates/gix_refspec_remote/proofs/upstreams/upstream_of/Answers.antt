use Rattle.gix_refspec_remote.proofs.Common.{bstr_bytes, map, reading_of, shown}
use Rattle.gix_refspec_remote.proofs.lemmas.UpstreamLemmas.{exclusion_is, tracked_is, untracked_is}
use Rattle.gix_refspec_remote.proofs.upstreams.upstream_of.Goals as goal

pub returns-in-Some : goal.returns-in-Some
returns-in-Some c = exclusion_is (map reading_of c.args.specs.now) (bstr_bytes c.args.merge) (shown c.in-Some.upstream)
    (rw c.in-Some.is at c.in_ok-excluded.ensures)

pub returns-in-Some-tracked : goal.returns-in-Some-tracked
returns-in-Some-tracked c = tracked_is (map reading_of c.args.specs.now) (bstr_bytes c.args.merge)
    (shown c.in-Some-tracked.upstream) (rw c.in-None.is at c.in_ok-excluded.ensures)
    (rw c.in-Some-tracked.is at c.in_ok-tracked-in-None.ensures)

pub returns-in-None-tracked : goal.returns-in-None-tracked
returns-in-None-tracked c = untracked_is (map reading_of c.args.specs.now) (bstr_bytes c.args.merge)
    (shown c.untracked_in.result) (rw c.in-None.is at c.in_ok-excluded.ensures)
    (rw c.in-None-tracked.is at c.in_ok-tracked-in-None.ensures) c.untracked_in.ensures
