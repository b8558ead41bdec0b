use Rattle.gix_refspec_why.proofs.Common.{Some, inl, refl, sym, ap, ◌∙◌, option_map, bstr_bytes, accepted_few, by_name}
use Rattle.gix_refspec_why.proofs.Common.{pointwise_decides, Decides-eqb, false≢true}
use Rattle.gix_refspec_why.proofs.lemmas.SourceLemmas.{unpatterned}
use Rattle.gix_refspec_why.specs.Matching.Why.{by_pattern}
use Rattle.gix_refspec_why.proofs.exclusion.exclusion_fate.Goals as goal

pub kind_of-requires : goal.kind_of-requires
kind_of-requires c = rw c.as_bytes-source.ensures
    (accepted_few _ _ c.args.spec.now.accepted
    (inl (sym c.source.ensures ∙ ap (option_map bstr_bytes) c.in-Some.is)))

pub returns-in_default-kind_of : goal.returns-in_default-kind_of
returns-in_default-kind_of c refs =
    let x = c.as_bytes-source.result.now in
    by_name c.requires x
    (sym c.source.ensures ∙ ap (option_map bstr_bytes) c.in-Some.is ∙ ap Some (sym c.as_bytes-source.ensures))
    (unpatterned c.kind_of.result x c.in_default-kind_of.not-Pattern c.kind_of.ensures)
    (λ same. false≢true (sym c.if-eq.false ∙ c.eq.ensures
    ∙ (pointwise_decides Decides-eqb x c.args.name.now).1 (sym same)))
    refl

pub returns-in-None : goal.returns-in-None
returns-in-None c refs =
    by_pattern c.requires c.as_bytes-source.result.now c.in-Pattern.before.now c.in-Pattern.after.now
    (sym c.source.ensures ∙ ap (option_map bstr_bytes) c.in-Some.is ∙ ap Some (sym c.as_bytes-source.ensures))
    c.in-Pattern.ensures c.pattern_mismatch.ensures
