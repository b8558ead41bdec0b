-- The names of local refs stand behind the destinations.
use Rattle.gix_refspec_plan.proofs.Common.{length, map, arith, length-map, ref_of, ◌≡◌, ◌∙◌}
use Rattle.gix_refspec_plan.proofs.lemmas.plan.CoveredLemmas.{behind_destinations, behind_flagged, copied_next}
use Rattle.gix_refspec_plan.proofs.lemmas.plan.CoveredLemmas.{names_long}
use Rattle.gix_refspec_plan.proofs.stale.written_flags.Goals as goal

pub loop-index-preserved : goal.loop-index-preserved
loop-index-preserved c =
    let refs = map ref_of c.args.local.now in
    let names = c.in_ok-names.names in
    let long = names_long _ _ names.items (behind_destinations _ refs names.items c.in_ok-names.ensures) in
    copied_next c.in_ok-all.all.items _ _ _ c.loop-index.index c.saturating_add.result c.is_flagged.result
    c.loop-index.invariant
    (omega (
      arith,
      long,
      length-map refs (λ r. r.name),
      length-map c.args.local.now ref_of,
      names.ok,
      names.small,
      c.saturating_add.ensures,
      c.saturating_sub-before.ensures,
      c.len.ensures,
      c.loop-index-test.true,
    ))
    (rw c.as_slice-in-loop-index.ensures.value at c.is_flagged.ensures) c.in_ok-push.ensures.items

pub returns : goal.returns
returns c =
    let refs = map ref_of c.args.local.now in
    let size : length (map (λ r. r.name) refs) ≡ length c.args.local.now = length-map refs (λ r. r.name)
    ∙ length-map c.args.local.now ref_of in
    behind_flagged _ _ c.in_ok-names.names.items
    (behind_destinations _ refs c.in_ok-names.names.items c.in_ok-names.ensures) c.in_ok-all.all.items _
    c.saturating_sub-before.result
    (omega (arith, size, c.saturating_sub-before.ensures, c.len.ensures))
    (rw c.as_slice.ensures.value at c.in_ok-all.ensures.ok)
    (λ k below. c.loop-index.invariant.1 k (omega (arith, size, below, c.loop-index-test.false)))
