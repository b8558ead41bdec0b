use Rattle.gix_refspec_lint.proofs.Common.{map, take, AllByRecursion, Contains, bstring_bytes}

abbrev pub invariant-loop-name : Rattle.gix_refspec_lint.proofs.required.lacks_with.Given.invariant-loop-name
invariant-loop-name l =
    AllByRecursion (Contains (map bstring_bytes l.names)) (map bstring_bytes (take l.name-index l.name-items))
