use Rattle.gix_refspec_why.proofs.Common.{◌++◌, ◌∷◌, [], ◌∙◌, IsSome, ap, refl, sym, subst, map, option_map}
use Rattle.gix_refspec_why.proofs.Common.{take, take_all, map_more, mapped_of, same_Some, get_by, slice_cmp, nat_cmp}
use Rattle.gix_refspec_why.proofs.Common.{AreRivalsTo}
use Rattle.gix_refspec_why.proofs.lemmas.RivalLemmas.{rivals_more, rivals_same}
use Rattle.gix_refspec_why.proofs.rivals.first_rivals.Goals as goal

pub loop-mapping-preserved-in_default : goal.loop-mapping-preserved-in_default
loop-mapping-preserved-in_default c =
    let kept = c.args.kept.now in
    let i = c.loop-mapping.mapping-index in
    let m = c.mapping-item.result in
    let without = option_map (λ n. n.now) c.args.without in
    subst (λ l. AreRivalsTo without l c.loop-mapping.rivals)
    (sym (map_more mapped_of kept i m c.loop-mapping-test.true
    ∙ ap (λ x. map mapped_of (take i kept) ++ mapped_of x ∷ []) (sym c.mapping-item.is)))
    (rivals_same without (map mapped_of (take i kept)) (mapped_of m) c.loop-mapping.rivals c.loop-mapping.invariant
    (λ d is. absurd (c.in_default.ensures d is.0)))

pub loop-mapping-preserved-then-is_from : goal.loop-mapping-preserved-then-is_from
loop-mapping-preserved-then-is_from c =
    let kept = c.args.kept.now in
    let i = c.loop-mapping.mapping-index in
    let m = c.mapping-item.result in
    let without = option_map (λ n. n.now) c.args.without in
    subst (λ l. AreRivalsTo without l c.loop-mapping.rivals)
    (sym (map_more mapped_of kept i m c.loop-mapping-test.true
    ∙ ap (λ x. map mapped_of (take i kept) ++ mapped_of x ∷ []) (sym c.mapping-item.is)))
    (rivals_same without (map mapped_of (take i kept)) (mapped_of m) c.loop-mapping.rivals c.loop-mapping.invariant
    (elim c.then-is_from.branch [
      | goal.then-is_from-via-then-is_from w ↦ λ d is. absurd ((rw w.if-is_from.true at c.is_from.ensures) is.1)
      | goal.then-is_from-via-else-is_from+then-contains_key w ↦ λ d is.
          subst (λ d. IsSome (get_by (λ k. slice_cmp nat_cmp d k.now) c.loop-mapping.rivals))
          (same_Some c.in-Some.destination.now d (sym c.in-Some.ensures.1 ∙ is.0.1))
          (sym w.contains_key.ensures ∙ w.if-contains_key.true)
    ]))

pub loop-mapping-preserved : goal.loop-mapping-preserved
loop-mapping-preserved c =
    let kept = c.args.kept.now in
    let i = c.loop-mapping.mapping-index in
    let m = c.mapping-item.result in
    let without = option_map (λ n. n.now) c.args.without in
    subst (λ l. AreRivalsTo without l c.insert.new.self)
    (sym (map_more mapped_of kept i m c.loop-mapping-test.true
    ∙ ap (λ x. map mapped_of (take i kept) ++ mapped_of x ∷ []) (sym c.mapping-item.is)))
    (rivals_more without (map mapped_of (take i kept)) (mapped_of m) c.loop-mapping.rivals c.insert.new.self
    c.in-Some.destination (record { spec_index = m.spec_index; item_index = m.item_index }) c.loop-mapping.invariant
    (c.in-Some.ensures, rw c.if-is_from.false at c.is_from.ensures) (record { spec = refl; item = refl })
    c.in_ok-insert.ensures.updates)

pub returns : goal.returns
returns c = rw (take_all c.loop-mapping.mapping-index c.args.kept.now c.loop-mapping-test.false) at
    c.loop-mapping.invariant
