use Rattle.gix_refspec_lint.proofs.Common.{map, bstring_bytes, AreAllowed}

abbrev pub invariant-loop-name : Rattle.gix_refspec_lint.proofs.idle.add_allowed.Given.invariant-loop-name
invariant-loop-name l = AreAllowed (map bstring_bytes l.fn.names.items) (map bstring_bytes l.yielded)
    (map bstring_bytes l.kept_away) (map bstring_bytes l.names.items)
