use Rattle.gix_refspec_match.proofs.Common.{refl, get_or_read, arith, rules, always_returns_same, ranks_by, is_lt}
use Rattle.gix_refspec_match.proofs.Common.{placed_order}
use Rattle.gix_refspec_match.proofs.lemmas.duplicates.OrderedLemmas.{numbered_more, placed_permuted, placed_total}

pub loop-index-preserved : Rattle.gix_refspec_match.proofs.duplicates.placed_in_order.Goals.loop-index-preserved
loop-index-preserved g c = rw c.in_ok-push.ensures.items
    (numbered_more c.loop-index.invariant _ refl
    (record {
      inside = omega arith;
      is = get_or_read _ c.loop-index.index c.index-elements-index.result
          (omega arith) c.index-elements-index.is;
    }))

pub returns : Rattle.gix_refspec_match.proofs.duplicates.placed_in_order.Goals.returns
returns g c = record {
  all = placed_permuted (omega arith) c.loop-index.invariant c.sort_unstable_by.ensures.permutation;
  order = c.sort_unstable_by.ensures.sorted (λ p q. is_lt (placed_order g.T.Element.order p q))
      (ranks_by (placed_total g.met.T.Element.total) (λ p. p)) (search (rules, always_returns_same));
}
