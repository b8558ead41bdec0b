use Rattle.gix_refspec_lint.proofs.Common.{◌≡◌, ◌∙◌, map, refl, subst, sym, Contains, false≢true, bstr_bytes}
use Rattle.gix_refspec_lint.proofs.Common.{bstring_bytes, one_more_mapped, text_contained}
use Rattle.gix_refspec_lint.proofs.lemmas.OneSpecLemmas.{same_bytes}
use Rattle.gix_refspec_lint.proofs.required.contains.Goals as goal

pub returns-then-eq : goal.returns-then-eq
returns-then-eq c =
    let same = (same_bytes _ _ (bstr_bytes c.args.name) c.eq.ensures refl).0 c.if-eq.true in (
      (λ told. subst (Contains (map bstring_bytes c.args.names.now)) (sym c.as_bstr.ensures ∙ same)
          (text_contained c.args.names.now c.loop-one.one-index c.one-item.result
          (map bstring_bytes c.args.names.now) refl c.loop-one-test.true c.one-item.is)),
      (λ has. refl),
    )

pub loop-one-preserved : goal.loop-one-preserved
loop-one-preserved c =
    one_more_mapped bstring_bytes (λ x. ¬
    (x ≡ bstr_bytes c.args.name)) c.args.names.now c.loop-one.one-index c.one-item.result c.loop-one.invariant
    c.loop-one-test.true c.one-item.is
    (λ same. false≢true (sym c.if-eq.false ∙ (same_bytes _ _ (bstr_bytes c.args.name) c.eq.ensures refl).1
    (c.as_bstr.ensures ∙ same)))
