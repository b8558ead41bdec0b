use Rattle.gix_refspec_why.proofs.Common.{take, AreMakersOf, FindsEarlierIn}

abbrev pub invariant-loop-index : Rattle.gix_refspec_why.proofs.attempts.earlier_makers.Given.invariant-loop-index
invariant-loop-index l = AreMakersOf (take l.index l.attempts) l.makers
    × FindsEarlierIn l.attempts (take l.index l.attempts) l.earlier.items
