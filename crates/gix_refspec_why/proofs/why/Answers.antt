use Rattle.gix_refspec_why.proofs.Common.{Some, refl, sym, map, bstr_bytes, ref_of}
use Rattle.gix_refspec_why.proofs.lemmas.CandidateLemmas.{first_named, found_first, last_named, none_named}
use Rattle.gix_refspec_why.proofs.why.Goals as goal

pub effects_among-requires : goal.effects_among-requires
effects_among-requires c =
    let refs = map ref_of c.args.items.now in
    first_named refs (bstr_bytes c.args.name) c.in-Some.index.now
    (found_first refs c.in_ok-firsts.firsts c.as_bytes.result.now (bstr_bytes c.args.name) _ c.in_ok-firsts.ensures
    c.as_bytes.ensures (sym c.in-Some.ensures.value))

pub returns-in-Some : goal.returns-in-Some
returns-in-Some c =
    let refs = map ref_of c.args.items.now in
    record {
      all = refs;
      have = (
        refl,
        found_first refs c.in_ok-firsts.firsts c.as_bytes.result.now (bstr_bytes c.args.name)
            (Some c.in-Some.index.now) c.in_ok-firsts.ensures c.as_bytes.ensures (sym c.in-Some.ensures.value),
      );
      are = c.in_ok-effects_among.ensures;
    }

pub effects_among-requires-2 : goal.effects_among-requires-2
effects_among-requires-2 c =
    let (r, named, is) = c.in_ok-all.ensures in
    rw (c.as_slice.ensures.value, is) (last_named (map ref_of c.args.items.now) r (bstr_bytes c.args.name) named)

pub returns : goal.returns
returns c =
    let refs = map ref_of c.args.items.now in
    record {
      all = map ref_of c.in_ok-all.all.items;
      have = (
        none_named refs (bstr_bytes c.args.name)
            (found_first refs c.in_ok-firsts.firsts c.as_bytes.result.now (bstr_bytes c.args.name) _
            c.in_ok-firsts.ensures c.as_bytes.ensures (sym c.in_default.ensures.value)),
        c.in_ok-all.ensures,
      );
      are = rw c.as_slice.ensures.value at c.in_ok-effects_among-2.ensures;
    }
