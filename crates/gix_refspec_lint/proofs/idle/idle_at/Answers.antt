pub returns : Rattle.gix_refspec_lint.proofs.idle.idle_at.Goals.returns
returns c g is = c.idle_beside.ensures g is (rw c.as_slice.ensures.value (c.in_ok-names.ensures g is))
