use Rattle.gix_refspec_lint.proofs.Common.{◌≡◌, map, take, AllByRecursion, bstr_bytes, bstring_bytes}

abbrev pub invariant-loop-at : Rattle.gix_refspec_lint.proofs.idle.tried_before.Given.invariant-loop-at
invariant-loop-at l = (l.names ≡ l.initial.names) × AllByRecursion (λ x. ¬ (x ≡ bstr_bytes l.candidate))
    (map bstring_bytes (take l.at l.names.items))
