-- The line of each update that is written is after the others.
use Rattle.std.proofs.Common.{List, [], ◌∷◌, map, sym, subst, take}
use Rattle.gix_refspec_plan.specs.Matching.Plan.{Planned}
use Rattle.gix_refspec_plan.specs.Views.Plan.{planned_of}
use Rattle.refspec_fetch.specs.Groups.{AddsShort}
use Rattle.refspec_fetch.specs.Verdicts.{written_of}
use Rattle.refspec_fetch.proofs.GroupLemmas.{AddsShort-append, AddsShort-start}
use Rattle.refspec_fetch.proofs.VerdictLemmas.{written-next}
use Rattle.refspec_fetch.proofs.groups.write_rows.Goals as goal

pub loop-update-init : goal.loop-update-init
loop-update-init c = AddsShort-start c.args.out.now.items

pub loop-update-preserved : goal.loop-update-preserved
loop-update-preserved c =
    let xs = c.args.updates.now in
    let i = c.loop-update.update-index in
    let x = c.update-item.result in
    subst (λ (l : List Planned). AddsShort l c.args.out.now.items c.add_short.new.out.items)
    (sym (written-next xs i x c.loop-update-test.true c.update-item.is))
    (AddsShort-append (written_of (map planned_of (take i xs))) (written_of (planned_of x ∷ []))
    c.args.out.now.items c.loop-update.out.items c.add_short.new.out.items c.loop-update.invariant
    c.in_ok-add_short.ensures)
