use Rattle.gix_refspec_remote.proofs.Common.{ℕ, ◌<◌, map, bstr_bytes, reading_of, AsksForExcluded, HasAt}
use Rattle.gix_refspec_remote.proofs.upstreams.excluded_in.Given as goal

abbrev pub invariant-loop-spec_index : goal.invariant-loop-spec_index
invariant-loop-spec_index l = (j : ℕ) → j < l.spec_index
    → ¬ (HasAt (map reading_of l.fn.specs) j (AsksForExcluded (map reading_of l.fn.specs) (bstr_bytes l.fn.merge)))
