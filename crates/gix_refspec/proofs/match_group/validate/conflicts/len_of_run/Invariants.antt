use Rattle.gix_refspec.proofs.Common.{◌≡◌, take, get_or, AllByRecursion, Update}

abbrev pub invariant-loop-len :
    Rattle.gix_refspec.proofs.match_group.validate.conflicts.len_of_run.Given.invariant-loop-len
invariant-loop-len l = (d : Update) → AllByRecursion (λ c. c.destination.now ≡ (get_or l.updates 0 d).destination.now)
    (take l.len l.updates)
