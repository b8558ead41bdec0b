use Rattle.gix_refspec_lint.proofs.Common.{map, bstring_bytes}
use Rattle.gix_refspec_lint.specs.Private.Idles.{AreValidOf}

abbrev pub invariant-loop-name : Rattle.gix_refspec_lint.proofs.required.valid_names.Given.invariant-loop-name
invariant-loop-name l = AreValidOf (map bstring_bytes l.yielded) (map bstring_bytes l.valid.items)
