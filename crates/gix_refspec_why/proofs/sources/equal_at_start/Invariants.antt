use Rattle.gix_refspec_why.proofs.Common.{take, ◌≡◌}

abbrev pub invariant-loop-index : Rattle.gix_refspec_why.proofs.sources.equal_at_start.Given.invariant-loop-index
invariant-loop-index l = take l.index l.one ≡ take l.index l.other
