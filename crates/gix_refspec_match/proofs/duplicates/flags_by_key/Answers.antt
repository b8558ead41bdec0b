-- an element is flagged where it has an earlier first, which equals it
use Rattle.gix_refspec_match.proofs.Common.{◌≡◌, Equal, refl, arith, pair_read, get_or_past, flags_all, flags_raised}
use Rattle.gix_refspec_match.proofs.lemmas.duplicates.HashKeyLemmas.{first_below}
use Rattle.gix_refspec_match.proofs.duplicates.flags_by_key.Goals as goal

pub bounds-elements-first : goal.bounds-elements-first
bounds-elements-first g c =
    let inside = (first_below c.in_ok-firsts.ensures c.loop-index.index _
    (omega (arith, c.loop-index-test.true, c.len-index-end.ensures)) c.index.ensures c.if-first-index.false) in
    omega (arith, inside.0, inside.1)

pub offset_bounds-elements-first : goal.offset_bounds-elements-first
offset_bounds-elements-first g c = let below = bounds-elements-first g c in omega (arith, below)

pub loop-index-preserved : goal.loop-index-preserved
loop-index-preserved g c =
    let (less, inside) = first_below c.in_ok-firsts.ensures c.loop-index.index _
    (omega (arith, c.loop-index-test.true, c.len-index-end.ensures)) c.index.ensures c.if-first-index.false in
    flags_raised c.loop-index.invariant _ _ c.in_ok-raise.ensures.fits c.in_ok-raise.ensures.raised (
      inside,
      (
        _,
        less,
        pair_read _ (λ a b. g.T.Element.order a b ≡ Equal) _ _ _ _ (omega arith) inside
            c.index-elements-first.is c.index-elements-index.is (c.equals.ensures.0 c.if-not-equals.false),
      ),
    )
    (λ k both. both.0)

pub returns : goal.returns
returns g c = flags_all c.loop-index.invariant (λ k duplicate.
    let (at, second) = c.requires.finds.finds k duplicate in
    let told = c.in_ok-firsts.ensures.found at k second in (
      k,
      grind (
        arith,
        get_or_past c.in_ok-firsts.firsts.items k k,
        told,
        c.loop-index-test.false,
        c.len-index-end.ensures,
      ),
      (refl, told),
    ))
