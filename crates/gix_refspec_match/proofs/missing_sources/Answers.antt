use Rattle.gix_refspec_match.proofs.Common.{None, Some, refl, sym, ◌∙◌, arith, append-nil, map, take_all, false≢true}
use Rattle.gix_refspec_match.proofs.Common.{all_weaker, kind_of_side, reading_of, ref_of, All}
use Rattle.gix_refspec_match.proofs.lemmas.hits.MatcherLemmas.{missing_made, blank_matcher, lacking_next}
use Rattle.gix_refspec_match.proofs.lemmas.index.PlacedLemmas.{named_listed}
use Rattle.gix_refspec_match.proofs.missing_sources.Goals as goal

pub loop-matcher-preserved : goal.loop-matcher-preserved
loop-matcher-preserved c = elim c.if-lacks.branch [
  | goal.then-lacks+in_ok-push w ↦ rw w.missing-is
      (lacking_next c.in_ok-index.index _ c.loop-matcher.matcher-index blank_matcher _ _
      (Some _) c.loop-matcher-test.true c.loop-matcher.invariant (refl, c.lacks.ensures.0 w.if-lacks.true)
      w.in_ok-push.ensures.items)
  | goal.else-lacks w ↦ rw w.missing-is
      (lacking_next c.in_ok-index.index _ c.loop-matcher.matcher-index blank_matcher _ _ None c.loop-matcher-test.true
      c.loop-matcher.invariant (λ y both. false≢true (sym w.if-lacks.false ∙ c.lacks.ensures.1 both.1))
      (sym (append-nil _)))
]

pub returns : goal.returns
returns c =
    let whole = rw (take_all c.loop-matcher.matcher-index c.deref-matcher-items.result.now (omega arith)) at
    c.loop-matcher.invariant in
    missing_made c.in_ok-index.index (map ref_of c.args.items.now) 0 0 (map reading_of c.args.specs.now) _ _
    (all_weaker _ _ (λ m named. named_listed All (map ref_of c.args.items.now) c.in_ok-names.names c.in_ok-index.index
    c.in_ok-index.ensures (kind_of_side m.needle) named) _ c.in_ok-names.ensures)
    c.in_ok-named.ensures (rw c.deref-matcher-items.ensures.value at whole)
