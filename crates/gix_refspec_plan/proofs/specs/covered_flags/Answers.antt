-- The merged refs stand behind the names of sound mappings' refs.
use Rattle.gix_refspec_plan.proofs.Common.{arith, length-map, bstr_bytes}
use Rattle.gix_refspec_plan.proofs.lemmas.plan.CoveredLemmas.{behind_flagged, behind_sources, copied_next, names_long}
use Rattle.gix_refspec_plan.proofs.specs.covered_flags.Goals as goal

pub loop-index-preserved : goal.loop-index-preserved
loop-index-preserved c =
    let names = c.in_ok-names.names in
    let long = names_long _ _ names.items (behind_sources _ _ names.items c.in_ok-names.ensures) in
    copied_next c.in_ok-all.all.items _ _ _ c.loop-index.index c.saturating_add.result c.is_flagged.result
    c.loop-index.invariant
    (omega (
      arith,
      long,
      length-map c.args.merges.now bstr_bytes,
      names.ok,
      names.small,
      c.saturating_add.ensures,
      c.saturating_sub-fetched.ensures,
      c.len.ensures,
      c.loop-index-test.true,
    ))
    (rw c.as_slice-in-loop-index.ensures.value at c.is_flagged.ensures) c.in_ok-push.ensures.items

pub returns : goal.returns
returns c =
    let size = length-map c.args.merges.now bstr_bytes in
    behind_flagged _ _ c.in_ok-names.names.items (behind_sources _ _ c.in_ok-names.names.items c.in_ok-names.ensures)
    c.in_ok-all.all.items _ c.saturating_sub-fetched.result
    (omega (arith, size, c.saturating_sub-fetched.ensures, c.len.ensures))
    (rw c.as_slice.ensures.value at c.in_ok-all.ensures.ok)
    (λ k below. c.loop-index.invariant.1 k (omega (arith, size, below, c.loop-index-test.false)))
