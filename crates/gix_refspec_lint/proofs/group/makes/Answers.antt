use Rattle.gix_refspec_lint.proofs.Common.{option_map, refl, take_all, arith, false≢true, bstr_bytes, start_of, pair_of}
use Rattle.gix_refspec_lint.proofs.lemmas.OneSpecLemmas.{kept_alone, none_paired, pair_there}
use Rattle.gix_refspec_lint.proofs.group.makes.Goals as goal

pub returns-then-is_pair : goal.returns-then-is_pair
returns-then-is_pair c =
    let pair = pair_of (start_of c.args.source.now) (option_map bstr_bytes c.args.destination) in
    let has = pair_there c.deref-mapping-items.result.now c.loop-mapping.mapping-index c.mapping-item.result pair
    c.loop-mapping-test.true c.mapping-item.is (c.is_pair.ensures.0 c.if-is_pair.true) in (
      (λ told. (kept_alone _ _ _ pair (rw c.as_slice.ensures at c.in_ok-mappings.ensures)).0
          (rw c.deref-mapping-items.ensures.value at has)),
      λ makes. refl,
    )

pub returns : goal.returns
returns c =
    let pair = pair_of (start_of c.args.source.now) (option_map bstr_bytes c.args.destination) in
    let none = none_paired _ pair
    (rw (
      take_all c.loop-mapping.mapping-index c.deref-mapping-items.result.now (omega arith),
      c.deref-mapping-items.ensures.value,
    ) at c.loop-mapping.invariant) in (
      (λ told. absurd (false≢true told)),
      λ makes. absurd (none ((kept_alone _ _ _ pair (rw c.as_slice.ensures at c.in_ok-mappings.ensures)).1 makes)),
    )
