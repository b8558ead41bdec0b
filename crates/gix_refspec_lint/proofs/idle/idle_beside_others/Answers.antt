use Rattle.gix_refspec_lint.proofs.Common.{ap, inl, get_or, sym, ◌∙◌, subst, same_Some, IfOk-weaker, IsPositive}
use Rattle.gix_refspec_lint.proofs.Common.{Reading, reading_of, accepted_few, HasPlainSource}
use Rattle.gix_refspec_lint.proofs.lemmas.IdleSpecLemmas.{why_beside}
use Rattle.gix_refspec_lint.proofs.lemmas.IndexLemmas.{reading_at}
use Rattle.gix_refspec_lint.proofs.idle.idle_beside_others.Goals as goal

pub parts_of-requires : goal.parts_of-requires
parts_of-requires c x is =
    let spec = get_or c.args.group.now.specs.now c.args.index c.index-group-index.result in
    accepted_few (reading_of spec) x spec.accepted (inl (sym c.source.ensures ∙ is))

pub returns-in-None : goal.returns-in-None
returns-in-None c g is =
    let cs = c.args.group.now.specs.now in
    let plain : HasPlainSource (reading_of
    (get_or cs c.args.index c.index-group-index.result)) = rw c.source.ensures at c.in-None.ensures in
    IfOk-weaker c.idle_by_sources.result _ _ (λ why told r at.
    let same = same_Some _ _ (sym (reading_at cs c.args.index c.index-group-index.result c.requires.0) ∙ at) in
    why_beside g c.args.others _ r (subst (λ (q : Reading). IsPositive q.mode) same c.if-is_negative.ensures) why
    (told r at (subst HasPlainSource same plain))) (c.idle_by_sources.ensures g is)

pub returns-in-Some : goal.returns-in-Some
returns-in-Some c g is =
    let (x, has, split) = c.in-Some.ensures in
    IfOk-weaker c.idle_by_words.result _ _ (λ why told r at.
    let same = same_Some _ _
    (sym (reading_at c.args.group.now.specs.now c.args.index c.index-group-index.result c.requires.0) ∙ at) in
    let positive = subst (λ (q : Reading). IsPositive q.mode) same c.if-is_negative.ensures in
    why_beside g c.args.others _ r positive why
    (told r at positive (record {
      text = x;
      has = ap (λ (q : Reading). q.source) (sym same) ∙ sym c.source.ensures ∙ has;
      split = split;
    })))
    (c.idle_by_words.ensures g is)
