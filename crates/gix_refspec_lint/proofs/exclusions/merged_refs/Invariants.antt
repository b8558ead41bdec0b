use Rattle.gix_refspec_lint.proofs.Common.{map, take, bstr_bytes, start_of}
use Rattle.gix_refspec_lint.specs.Private.Idles.{AreMergedRefs}

abbrev pub invariant-loop-value : Rattle.gix_refspec_lint.proofs.exclusions.merged_refs.Given.invariant-loop-value
invariant-loop-value l = AreMergedRefs (map bstr_bytes (take l.value-index l.merges)) (map start_of l.merged.items)
