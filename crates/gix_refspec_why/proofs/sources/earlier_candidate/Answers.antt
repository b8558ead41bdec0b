-- The candidates are tried in order.
use Rattle.gix_refspec_why.proofs.Common.{◌≡◌, None, Some, inl, sym, ap, subst, ◌∙◌, map, option_map, take_all}
use Rattle.gix_refspec_why.proofs.Common.{Ref, All-more, bstr_bytes, bstring_bytes, accepted_few, reading_of, HasKind}
use Rattle.gix_refspec_why.proofs.Common.{FirstOf, one_kind, partial, pointwise_decides, Decides-eqb, false≢true}
use Rattle.gix_refspec_why.proofs.lemmas.CandidateLemmas.{IsPassed, none_left, none_named, takes_here, takes_other}
use Rattle.gix_refspec_why.proofs.lemmas.CandidateLemmas.{unpartial}
use Rattle.gix_refspec_match.proofs.lemmas.hits.HitLemmas.{same_side}
use Rattle.gix_refspec_text.specs.Private.SideViews.{kind_of_side}
use Rattle.gix_refspec_why.proofs.sources.earlier_candidate.Goals as goal

pub kind_of-requires : goal.kind_of-requires
kind_of-requires c = rw c.as_bytes.ensures
    (accepted_few _ _ c.args.spec.now.accepted
    (inl (sym c.source.ensures ∙ ap (option_map bstr_bytes) c.in-Some.is)))

pub returns-in_default-kind_of : goal.returns-in_default-kind_of
returns-in_default-kind_of c refs names has x of =
    let source = sym c.source.ensures ∙ ap (option_map bstr_bytes) c.in-Some.is ∙ ap Some (sym c.as_bytes.ensures) in
    let same = same_side (reading_of c.args.spec.now).source x c.as_bytes.result.now of.source source in
    absurd (unpartial c.kind_of.result x c.in_default-kind_of.not-Partial
    (one_kind x (kind_of_side c.kind_of.result) (partial x)
    (subst (λ y. HasKind y (kind_of_side c.kind_of.result)) (sym same) c.kind_of.ensures) of.kind))

pub returns-then-eq : goal.returns-then-eq
returns-then-eq c refs names has =
    let p = c.in-Partial.partial.now in
    let texts = c.deref-candidate-items.result.now in
    let source = sym c.source.ensures ∙ ap (option_map bstr_bytes) c.in-Some.is ∙ ap Some (sym c.as_bytes.ensures) in
    takes_here c.args.name.now c.args.firsts.now p texts
    (ap (map bstring_bytes) c.deref-candidate-items.ensures.value ∙ c.in_ok-candidates.ensures)
    c.loop-candidate.candidate-index c.candidate-item.result c.loop-candidate-test.true c.candidate-item.is
    c.loop-candidate.invariant refs names (reading_of c.args.spec.now) (source ∙ ap Some (sym c.in-Partial.ensures.0))
    (subst (λ y. HasKind y (partial p)) (sym c.in-Partial.ensures.0) c.in-Partial.ensures) has
    (sym c.as_bstr.ensures ∙ sym c.as_bytes-candidate.ensures
    ∙ (pointwise_decides Decides-eqb c.as_bytes-candidate.result.now c.args.name.now).0
    (sym c.eq.ensures ∙ c.if-eq.true))

pub returns-in-Some-get : goal.returns-in-Some-get
returns-in-Some-get c refs names has =
    let p = c.in-Partial.partial.now in
    let texts = c.deref-candidate-items.result.now in
    let source = sym c.source.ensures ∙ ap (option_map bstr_bytes) c.in-Some.is ∙ ap Some (sym c.as_bytes.ensures) in
    let text = c.as_bytes-candidate.ensures ∙ c.as_bstr.ensures in
    takes_other c.args.name.now c.args.firsts.now p texts
    (ap (map bstring_bytes) c.deref-candidate-items.ensures.value ∙ c.in_ok-candidates.ensures)
    c.loop-candidate.candidate-index c.candidate-item.result c.loop-candidate-test.true c.candidate-item.is
    c.loop-candidate.invariant refs names (reading_of c.args.spec.now) (source ∙ ap Some (sym c.in-Partial.ensures.0))
    (subst (λ y. HasKind y (partial p)) (sym c.in-Partial.ensures.0) c.in-Partial.ensures)
    (λ same. false≢true (sym c.if-eq.false ∙ c.eq.ensures
    ∙ (pointwise_decides Decides-eqb c.as_bytes-candidate.result.now c.args.name.now).1 (text ∙ same)))
    c.in-Some-get.index.now
    (subst (λ t. FirstOf (λ (r : Ref). r.name ≡ t) refs (Some c.in-Some-get.index.now)) text
    (subst (FirstOf (λ (r : Ref). r.name ≡ c.as_bytes-candidate.result.now) refs) (sym c.in-Some-get.ensures.value)
    (names c.as_bytes-candidate.result.now)))

pub loop-candidate-preserved : goal.loop-candidate-preserved
loop-candidate-preserved c =
    let text = c.as_bytes-candidate.ensures ∙ c.as_bstr.ensures in
    All-more (IsPassed c.args.name.now c.args.firsts.now) _ _ c.candidate-item.result c.loop-candidate-test.true
    c.loop-candidate.invariant
    (subst (IsPassed c.args.name.now c.args.firsts.now) c.candidate-item.is (
      (λ same. false≢true (sym c.if-eq.false ∙ c.eq.ensures
          ∙ (pointwise_decides Decides-eqb c.as_bytes-candidate.result.now c.args.name.now).1 (text ∙ same))),
      λ refs names. none_named refs (bstring_bytes c.candidate-item.result)
          (subst (λ t. FirstOf (λ (r : Ref). r.name ≡ t) refs None) text
          (subst (FirstOf (λ (r : Ref). r.name ≡ c.as_bytes-candidate.result.now) refs)
          (sym c.in_default-get.ensures.value) (names c.as_bytes-candidate.result.now))),
    ))

pub returns : goal.returns
returns c refs names has x of =
    let p = c.in-Partial.partial.now in
    let texts = c.deref-candidate-items.result.now in
    let source = sym c.source.ensures ∙ ap (option_map bstr_bytes) c.in-Some.is ∙ ap Some (sym c.as_bytes.ensures) in
    absurd (none_left c.args.name.now c.args.firsts.now p texts
    (ap (map bstring_bytes) c.deref-candidate-items.ensures.value ∙ c.in_ok-candidates.ensures)
    (rw (take_all _ _ c.loop-candidate-test.false) at c.loop-candidate.invariant)
    (c.requires p (record {
      source = source ∙ ap Some (sym c.in-Partial.ensures.0);
      kind = subst (λ y. HasKind y (partial p)) (sym c.in-Partial.ensures.0) c.in-Partial.ensures;
    })))
