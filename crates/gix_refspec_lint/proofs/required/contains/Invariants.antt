use Rattle.gix_refspec_lint.proofs.Common.{◌≡◌, map, take, AllByRecursion, bstr_bytes, bstring_bytes}

abbrev pub invariant-loop-one : Rattle.gix_refspec_lint.proofs.required.contains.Given.invariant-loop-one
invariant-loop-one l = AllByRecursion (λ x. ¬ (x ≡ bstr_bytes l.name)) (map bstring_bytes (take l.one-index l.names))
