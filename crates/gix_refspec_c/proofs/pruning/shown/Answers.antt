-- One more ref is shown.
use Rattle.std.proofs.Common.{◌∙◌, ℕ, ◌+◌, ◌<◌, List, [], ◌∷◌, ◌++◌, length, map, take, get_or, ap, refl, subst, sym}
use Rattle.std.proofs.lemmas.List.{map-append, take_more}
use Rattle.std.proofs.lemmas.Slice.Zip.{all_zipped_more}
use Rattle.gix_refspec_plan.specs.declared.stale.Stale.{Stale}
use Rattle.gix_refspec_plan.specs.Matching.Stale.{Found}
use Rattle.gix_refspec_plan.specs.Views.Stale.{found_of}
use Rattle.gix_refspec_c.specs.declared.pruning.StaleOut.{StaleOut}
use Rattle.gix_refspec_c.specs.Stale.{AreShown, IsShown}
use Rattle.gix_refspec_c.proofs.pruning.shown.Goals as goal

shown_more : (stale : List Stale) (k : ℕ) (d : Stale) (structs : List StaleOut) (s : StaleOut) → k < length stale
    → AreShown (map found_of (take k stale)) structs → IsShown (found_of (get_or stale k d)) s
    → AreShown (map found_of (take (k + 1) stale)) (structs ++ s ∷ [])
shown_more stale k d structs s below so_far show =
    let more = ap (map found_of) (take_more stale k d below) ∙ map-append found_of (take k stale)
    (get_or stale k d ∷ []) in
    subst (λ (fs : List Found). AreShown fs (structs ++ s ∷ [])) (sym more)
    (all_zipped_more IsShown (map found_of (take k stale)) structs (found_of (get_or stale k d)) s so_far show)

pub loop-one-preserved : goal.loop-one-preserved
loop-one-preserved c =
    let more = shown_more c.args.stale.now c.loop-one.one-index _ c.loop-one.structs.items _ c.loop-one-test.true
    c.loop-one.invariant (record { item = refl; kept_by = c.index_number.ensures }) in
    subst (λ (structs : List StaleOut). AreShown (map found_of (take (c.loop-one.one-index + 1) c.args.stale.now))
    structs) (sym c.in_ok-push.ensures.items) more
