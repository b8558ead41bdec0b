use Rattle.gix_refspec_lint.proofs.lemmas.MergedLemmas.{merges_at}
use Rattle.gix_refspec_lint.proofs.exclusions.merged_refs.Goals as goal

pub loop-value-preserved : goal.loop-value-preserved
loop-value-preserved c =
    merges_at _ _ _ _ _ _ c.loop-value-test.true c.as_bytes.ensures c.loop-value.invariant c.in_ok-add_merged.ensures
