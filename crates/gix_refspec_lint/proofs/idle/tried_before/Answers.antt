use Rattle.gix_refspec_lint.proofs.Common.{◌∙◌, ◌<◌, Vec, Global, length, map, refl, ap, sym, take_all, arith}
use Rattle.gix_refspec_lint.proofs.Common.{bstr_bytes, bstring_bytes, BString}
use Rattle.gix_refspec_lint.proofs.lemmas.IdleLemmas.{none_tried, tried_at}
use Rattle.gix_refspec_lint.proofs.lemmas.OneSpecLemmas.{same_bytes}
use Rattle.gix_refspec_lint.proofs.idle.tried_before.Goals as goal

pub returns-then-eq : goal.returns-then-eq
returns-then-eq c =
    let same = c.loop-at.invariant.0 in
    let below : c.loop-at.at < length c.loop-at.names.items =
    omega (
      arith,
      ap (λ (v : Vec BString Global). length v.items) same,
      c.loop-at-test.true,
      c.len-at-end.ensures,
      c.in_ok-names.names.ok.0,
      c.in_ok-names.names.ok.1,
    ) in
    tried_at c.args.partial.now (bstr_bytes c.args.candidate) _ c.loop-at.at c.index.result.now _
    (ap (λ (v : Vec BString Global). map bstring_bytes v.items) same ∙ c.in_ok-names.ensures) below c.index.ensures
    (sym c.as_bstr.ensures ∙ (same_bytes _ _ (bstr_bytes c.args.candidate) c.eq.ensures refl).0 c.if-eq.true)
    c.loop-at.invariant.1 (ap (map bstring_bytes) c.truncate.ensures.items)

pub returns : goal.returns
returns c = grind (arith, none_tried, take_all)
