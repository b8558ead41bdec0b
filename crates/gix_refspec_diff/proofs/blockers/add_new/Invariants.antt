use Rattle.gix_refspec_diff.proofs.Common.{AreAllowed, bstring_bytes, map}

abbrev pub invariant-loop-name : Rattle.gix_refspec_diff.proofs.blockers.add_new.Given.invariant-loop-name
invariant-loop-name l = AreAllowed (map bstring_bytes l.fn.names.items) (map bstring_bytes l.yielded)
    (map bstring_bytes l.away) (map bstring_bytes l.names.items)
