use Rattle.gix_refspec_why.proofs.Common.{drop, length, ◌-◌, ◌≡◌}

abbrev pub invariant-loop-index : Rattle.gix_refspec_why.proofs.sources.equal_at_end.Given.invariant-loop-index
invariant-loop-index l = drop (length l.one - l.index) l.one ≡ drop (length l.other - l.index) l.other
