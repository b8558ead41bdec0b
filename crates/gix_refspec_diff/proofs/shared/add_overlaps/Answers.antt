use Rattle.gix_refspec_diff.proofs.Common.{[], ap, arith, get_or, map, map-append, name, start_of, take_all, ◌++◌}
use Rattle.gix_refspec_diff.proofs.Common.{◌∙◌, ◌∷◌}
use Rattle.gix_refspec_lint.proofs.Common.{AreOverlaps, Contains-get_or, IsOverlap, get_or_default, of_element}
use Rattle.gix_refspec_diff.proofs.lemmas.SharedLemmas.{overlap_pushed}
use Rattle.gix_refspec_diff.proofs.shared.add_overlaps.Goals as goal

pub overlapping-requires : goal.overlapping-requires
overlapping-requires c =
    let common = c.args.common.now in
    let list = c.deref-shared-items.result.now in
    let i = c.loop-shared.shared-index in
    let are : AreOverlaps common.prefix.now common.suffix.now common.most list =
    rw c.deref-shared-items.ensures.value c.in_ok-overlaps.ensures in
    (of_element (IsOverlap common.prefix.now common.suffix.now) list (get_or list i 0) are.each
    (Contains-get_or list i 0 c.loop-shared-test.true)).within

pub loop-shared-preserved : goal.loop-shared-preserved
loop-shared-preserved c =
    let old = c.loop-shared.sources.items in
    let list = c.deref-shared-items.result.now in
    let i = c.loop-shared.shared-index in
    overlap_pushed c.args.common.now.prefix.now c.args.common.now.suffix.now list i (get_or list i 0) _
    (map start_of old) _ c.loop-shared-test.true
    (get_or_default list i 0 (get_or list i 0) c.loop-shared-test.true) c.loop-shared.invariant
    (ap (map start_of) c.in_ok-push.ensures.items ∙ map-append start_of old _
    ∙ ap (λ y. map start_of old ++ y ∷ []) (c.source_named.ensures ∙ ap name c.in_ok-overlapping.ensures))

pub returns : goal.returns
returns c p t a b shared = record {
  most = _;
  lengths = c.deref-shared-items.result.now;
  texts = record { prefix_is = shared.prefix; suffix_is = shared.suffix; most_is = shared.most };
  are = rw c.deref-shared-items.ensures.value c.in_ok-overlaps.ensures;
  all = rw (take_all c.loop-shared.shared-index c.deref-shared-items.result.now (omega arith)) at
      c.loop-shared.invariant;
}
