use Rattle.gix_refspec_why.proofs.Common.{None, ◌++◌, ◌∷◌, [], ◌∙◌, ap, map, map-append, refl, ref_of, take_all, Item}
use Rattle.gix_refspec_why.proofs.with_name.Goals as goal

pub returns : goal.returns
returns c =
    let item : Item = record { full_ref_name = c.args.name; target = c.args.target; object = None } in (
      ref_of item,
      refl,
      ap (map ref_of) c.in_ok-push-2.ensures.items ∙ map-append ref_of c.loop-item.all.items (item ∷ [])
          ∙ ap (λ l. map ref_of l ++ ref_of item ∷ [])
          (c.loop-item.invariant ∙ take_all c.loop-item.item-index c.args.items.now c.loop-item-test.false),
    )
