use Rattle.gix_refspec_match.proofs.Common.{None, Some, refl, append-nil, sym, ◌∙◌, arith, map, take_all, rules}
use Rattle.gix_refspec_match.proofs.Common.{false≢true, length-map, kind_of_side, ref_of}
use Rattle.gix_refspec_match.proofs.lemmas.index.PlacedLemmas.{all_found, item_next, matches_taken, place_fits}
use Rattle.gix_refspec_match.proofs.lemmas.index.PlacedLemmas.{place_next}
use Rattle.gix_refspec_match.proofs.hits.add_hits.Goals as goal

pub bounds-items-index : goal.bounds-items-index
bounds-items-index c =
    let listed = c.in-Some.ensures c.args.candidates (map ref_of c.args.items.now) c.requires in
    rw length-map at (place_fits _ _ (kind_of_side c.args.needle) c.in-Some.indexes.now c.loop-index.index-index 0
    listed c.loop-index-test.true)

pub offset_bounds-items-index : goal.offset_bounds-items-index
offset_bounds-items-index c = let below = bounds-items-index c in search rules

pub loop-index-preserved : goal.loop-index-preserved
loop-index-preserved c =
    let listed = c.in-Some.ensures c.args.candidates (map ref_of c.args.items.now) c.requires in
    elim c.else-matches.branch [
      | goal.else-matches-via-then-matches+in_ok-add_hit-in-Some+else-not-branch w ↦
          let hit = rw w.if-not-branch.false at w.in_ok-add_hit-in-Some.ensures in
          rw w.hits-is (place_next _ _ _ _ _ _ 0 _ (Some _) _ _ _ c.loop-index-test.true listed
          (c.matches.ensures.0 w.if-matches.true, refl) hit c.loop-index.invariant)
      | goal.else-matches-via-else-matches w ↦
          rw w.hits-is (place_next _ _ _ _ _ _ 0 _ None _ _ _ c.loop-index-test.true listed
          (λ hit is. false≢true (sym w.if-matches.false ∙ c.matches.ensures.1 is.0)) (sym (append-nil _))
          c.loop-index.invariant)
    ]

pub loop-item_index-preserved : goal.loop-item_index-preserved
loop-item_index-preserved c =
    let told = c.matches-in-loop-item_index.ensures in
    elim c.else-matches-2.branch [
      | goal.else-matches-2-via-then-matches-2+in_ok-add_hit-in-None+else-not-branch-2 w ↦
          let hit = rw w.if-not-branch-2.false at w.in_ok-add_hit-in-None.ensures in
          rw w.hits-is (item_next _ _ _ _ _ _ _ (Some _) _ _ _ c.loop-item_index-test.true
          ((matches_taken _ _ _ _).1 c.in-None.ensures (told.0 w.if-matches-2.true), refl) hit
          c.loop-item_index.invariant)
      | goal.else-matches-2-via-else-matches-2 w ↦
          rw w.hits-is
          (item_next _ _ _ _ _ _ _ None _ _ _ c.loop-item_index-test.true
          (λ hit is. false≢true (sym w.if-matches-2.false ∙ told.1 ((matches_taken _ _ _ _).0 is.0)))
          (sym (append-nil _)) c.loop-item_index.invariant)
    ]

pub returns-after-loop-index : goal.returns-after-loop-index
returns-after-loop-index c =
    let (made, are, all) = c.loop-index.invariant in
    let matched = rw (take_all c.loop-index.index-index c.in-Some.indexes.now (omega arith)) at are in
    record {
      made = made;
      are = all_found _ _ (kind_of_side c.args.needle) c.args.matcher _ made
          (c.in-Some.ensures c.args.candidates (map ref_of c.args.items.now) c.requires) matched;
      all = all;
    }
