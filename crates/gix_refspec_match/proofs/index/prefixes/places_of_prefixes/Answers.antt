use Rattle.gix_refspec_match.proofs.Common.{length, false, get_or, rules, cases_Bool, cases_eq, nil_from_length}
use Rattle.gix_refspec_match.proofs.Common.{IsFlagged, take_all}
use Rattle.gix_refspec_match.proofs.lemmas.index.IndexLemmas.{all_at, item_added}
use Rattle.gix_refspec_match.proofs.index.prefixes.places_of_prefixes.Goals as goal

pub loop-place-init : goal.loop-place-init
loop-place-init c =
    let started = c.in_ok-places.ensures in (
      (λ prefix v is.
          let cases = cases_Bool (get_or c.in_ok-lengths.lengths.items (length prefix) false) in
          search (
            rules,
            started.others prefix,
            all_at (λ n. IsFlagged c.in_ok-lengths.lengths.items (length n)) _
                prefix c.in_ok-lengths.ensures,
          )),
      (λ prefix v is. let cases = cases_eq (length v.items) 0 in search (
        rules,
        nil_from_length v.items,
        started.others prefix,
        started.each prefix,
      )),
    )

pub loop-place-preserved : goal.loop-place-preserved
loop-place-preserved c =
    let adds = c.in_ok-prefixes.ensures in (
      (λ prefix v is. let (w, was, told) = adds prefix v is in c.loop-place.invariant.0 prefix w was),
      item_added c.args.items.now c.loop-place.place _ c.as_bytes-name.result.now _ _ c.loop-place-test.true
          c.as_bytes-name.ensures adds c.loop-place.invariant.1,
    )

pub returns : goal.returns
returns c = rw (take_all c.loop-place.place c.args.items.now c.loop-place-test.false) at c.loop-place.invariant.1
