-- The line of each update that is written is after the others.
use Rattle.std.proofs.Common.{List, [], ◌∷◌, map, sym, subst, take}
use Rattle.gix_refspec_plan.specs.Matching.Plan.{Planned}
use Rattle.gix_refspec_plan.specs.Views.Plan.{planned_of}
use Rattle.refspec_fetch.specs.Updates.{AddsUpdateLines}
use Rattle.refspec_fetch.specs.Verdicts.{written_of}
use Rattle.refspec_fetch.proofs.UpdateLemmas.{AddsUpdateLines-append, AddsUpdateLines-start}
use Rattle.refspec_fetch.proofs.VerdictLemmas.{written-next}
use Rattle.refspec_fetch.proofs.updates.write_table.Goals as goal

pub loop-update-init : goal.loop-update-init
loop-update-init c = AddsUpdateLines-start c.args.texts.now c.args.out.now.items

pub loop-update-preserved : goal.loop-update-preserved
loop-update-preserved c =
    let texts = c.args.texts.now in
    let xs = c.args.updates.now in
    let i = c.loop-update.update-index in
    let x = c.update-item.result in
    subst (λ (l : List Planned). AddsUpdateLines texts l c.args.out.now.items c.add_row.new.out.items)
    (sym (written-next xs i x c.loop-update-test.true c.update-item.is))
    (AddsUpdateLines-append texts (written_of (map planned_of (take i xs))) (written_of (planned_of x ∷ []))
    c.args.out.now.items c.loop-update.out.items c.add_row.new.out.items c.loop-update.invariant
    c.in_ok-add_row.ensures)
