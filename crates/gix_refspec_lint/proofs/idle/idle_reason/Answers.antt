use Rattle.gix_refspec_lint.proofs.lemmas.IdleSpecLemmas.{duplicate_of, duplicates_of}
use Rattle.gix_refspec_lint.proofs.idle.idle_reason.Goals as goal

pub returns-in_default : goal.returns-in_default
returns-in_default c g is r at = rw c.in_default.is at (c.in_ok-why.ensures g is r at)

pub returns-in-Invalid : goal.returns-in-Invalid
returns-in-Invalid c g is r at = rw c.in-Invalid.is at (rw c.in-Some.is at (c.in_ok-why.ensures g is r at))

pub returns-in-Excluded : goal.returns-in-Excluded
returns-in-Excluded c g is r at = rw c.in-Excluded.is at (rw c.in-Some.is at (c.in_ok-why.ensures g is r at))

pub returns-in-None : goal.returns-in-None
returns-in-None c g is r at =
    let (positive, idle) = rw c.in-Duplicate.is at (rw c.in-Some.is at (c.in_ok-why.ensures g is r at)) in (
      positive,
      duplicates_of g c.args.index _ idle
          (rw c.in-None.is at (c.in_ok-covering-in-Duplicate.ensures g is r at positive)),
    )

pub returns-in-Some-2 : goal.returns-in-Some-2
returns-in-Some-2 c g is r at =
    let (positive, idle) = rw c.in-Duplicate.is at (rw c.in-Some.is at (c.in_ok-why.ensures g is r at)) in (
      positive,
      duplicate_of g c.args.index _ c.in-Some-2.spec idle
          (rw c.in-Some-2.is at (c.in_ok-covering-in-Duplicate.ensures g is r at positive)),
    )
