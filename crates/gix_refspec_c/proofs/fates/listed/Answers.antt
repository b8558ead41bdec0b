-- One more effect is listed.
use Rattle.std.proofs.Common.{[], ◌∷◌, ◌++◌, map, take, ap, sym, ◌∙◌}
use Rattle.std.proofs.lemmas.List.{map_more}
use Rattle.gix_refspec_why.specs.Views.Why.{effect_of}
use Rattle.gix_refspec_c.specs.Fates.{described_at, described_by, effect_text}
use Rattle.gix_refspec_c.proofs.LayoutLemmas.{laid_out_more}
use Rattle.gix_refspec_c.proofs.fates.listed.Goals as goal

pub loop-effect-preserved : goal.loop-effect-preserved
loop-effect-preserved c =
    let effects = c.args.effects.now in
    let i = c.loop-effect.effect-index in
    laid_out_more effect_text described_at described_by (map effect_of (take i effects)) _
    (effect_of c.effect-item.result) c.loop-effect.structs.items c.add.new.structs.items c.loop-effect.text.items
    c.add.new.text.items c.loop-effect.invariant
    (map_more effect_of effects i c.effect-item.result c.loop-effect-test.true
    ∙ ap (λ e. map effect_of (take i effects) ++ effect_of e ∷ []) (sym c.effect-item.is))
    c.in_ok-add.ensures.made c.in_ok-add.ensures.described
