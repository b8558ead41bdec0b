use Rattle.gix_refspec_match.proofs.Common.{◌∙◌, subst, rules, all_weaker, one_more_mapped, Passes, name_bytes}
use Rattle.gix_refspec_match.proofs.Common.{NameFilter}

pub loop-name-preserved : Rattle.gix_refspec_match.proofs.bloom.NameFilter.of.Goals.loop-name-preserved
loop-name-preserved c =
    let new : NameFilter = record {
      lengths = c.add.new.self;
      tails = c.add-in-loop-name.new.self;
      hashes =
          c.add-in-loop-name-2.new.self;
    } in
    let here : Passes new c.as_bytes-name.result.now = search rules in (
      record {
        lengths = c.add.ensures.whole;
        tails = c.add-in-loop-name.ensures.whole;
        hashes =
            c.add-in-loop-name-2.ensures.whole;
      },
      one_more_mapped name_bytes (Passes new) c.args.names.now c.loop-name.name-index c.name-item.result
          (all_weaker _ (Passes new)
          (λ m passed. search (
            rules,
            c.add.ensures.others,
            c.add-in-loop-name.ensures.others,
            c.add-in-loop-name-2.ensures.others,
          )) _ c.loop-name.invariant.1)
          c.loop-name-test.true c.name-item.is (subst (Passes new) (c.as_bytes-name.ensures ∙ c.as_bstr.ensures) here),
    )
