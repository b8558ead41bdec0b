-- The piece of each update that is written is after the others.
use Rattle.std.proofs.Common.{◌≡◌, List, [], ◌∷◌, ◌++◌, flat_map, map, sym, subst, take}
use Rattle.gix_refspec_plan.specs.Matching.Plan.{Planned}
use Rattle.gix_refspec_plan.specs.Views.Plan.{planned_of}
use Rattle.refspec_fetch.specs.Updates.{update_object}
use Rattle.refspec_fetch.specs.Verdicts.{written_of}
use Rattle.refspec_fetch.proofs.UpdateLemmas.{pieces-append}
use Rattle.refspec_fetch.proofs.VerdictLemmas.{written-next}
use Rattle.refspec_fetch.proofs.updates.write_objects.Goals as goal

pub loop-update-preserved : goal.loop-update-preserved
loop-update-preserved c =
    let f = update_object c.args.texts.now in
    let xs = c.args.updates.now in
    let i = c.loop-update.update-index in
    let x = c.update-item.result in
    subst (λ (l : List Planned). c.add_object.new.out.items ≡ c.args.out.now.items ++ flat_map f l)
    (sym (written-next xs i x c.loop-update-test.true c.update-item.is))
    (pieces-append f (written_of (map planned_of (take i xs))) (written_of (planned_of x ∷ [])) c.args.out.now.items
    c.loop-update.out.items c.add_object.new.out.items c.loop-update.invariant c.in_ok-add_object.ensures)
