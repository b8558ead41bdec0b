use Rattle.gix_refspec_match.proofs.Common.{rules, [], refl, map, take_all, ref_of, First, All}
use Rattle.gix_refspec_match.proofs.lemmas.index.FirstPlacesLemmas.{AreFound, found_taken}
use Rattle.gix_refspec_match.proofs.lemmas.index.PartialLemmas.{adds_nothing, partials_more}
use Rattle.gix_refspec_match.proofs.index.partials.places_of_partials.Goals as goal

pub loop-place-init : goal.loop-place-init
loop-place-init c = record {
  each = λ x there. let (v, is, none) = c.in_ok-places.ensures.each x there in (
    v,
    is,
    rw none (elim c.args.candidates as (λ w. AreFound w (map ref_of c.args.items.now) x [] [])
        [ First ↦ λ n one has. has | All ↦ refl ]),
  );
}

pub loop-place-preserved : goal.loop-place-preserved
loop-place-preserved c = partials_more _ c.loop-place-test.true c.as_bytes-name.ensures c.in_ok-filter.ensures.all
    c.in_ok-add_item.ensures c.loop-place.invariant

pub loop-place-preserved-then-not-may_have : goal.loop-place-preserved-then-not-may_have
loop-place-preserved-then-not-may_have c =
    search (
      rules,
      partials_more,
      adds_nothing,
      c.loop-place-test.true,
      c.as_bytes-name.ensures,
      c.in_ok-tails.ensures.all,
      c.may_have.ensures,
      c.if-not-may_have.true,
      c.loop-place.invariant,
    )

pub returns : goal.returns
returns c x there = let (v, is, found) = c.loop-place.invariant.each x there in (
  v,
  is,
  found_taken c.args.candidates (map ref_of c.args.items.now) x v.items
      (simp (take_all c.loop-place.place c.args.items.now c.loop-place-test.false) at found),
)
