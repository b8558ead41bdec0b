use Rattle.gix_refspec_lint.proofs.Common.{◌≡◌, map, bstring_bytes, name, start_of}

abbrev pub invariant-loop-candidate :
    Rattle.gix_refspec_lint.proofs.removal.pruning.sources_named.Given.invariant-loop-candidate
invariant-loop-candidate l = map start_of l.sources.items ≡ map name (map bstring_bytes l.yielded)
