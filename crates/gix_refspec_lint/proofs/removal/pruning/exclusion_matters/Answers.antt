use Rattle.gix_refspec_lint.proofs.Common.{inl, inr, option_map, sym, ap, ◌∙◌, subst, bstr_bytes, reading_of}
use Rattle.gix_refspec_lint.proofs.Common.{accepted_few, IfOk-weaker, IsPositive}
use Rattle.gix_refspec_lint.proofs.lemmas.RemovalLemmas.{told_else}
use Rattle.gix_refspec_lint.proofs.lemmas.StaleLemmas.{completed_far, completed_near, one_written, source_starred}
use Rattle.gix_refspec_lint.specs.Private.Removals.{IsSameAlone, all_of, rest_of}
use Rattle.gix_refspec_lint.proofs.removal.pruning.exclusion_matters.Goals as goal

pub parts_of-requires : goal.parts_of-requires
parts_of-requires c x is = accepted_few (reading_of c.args.spec.now) x c.args.spec.now.accepted
    (inr (sym c.destination-2.ensures ∙ is))

pub returns-in_default-parts_of : goal.returns-in_default-parts_of
returns-in_default-parts_of c r are done q inside also =
    let has = sym c.destination.ensures ∙ ap (option_map bstr_bytes) c.in-Some.is in
    let only = one_written q (reading_of c.args.spec.now) also
    (rw c.destination-2.ensures at c.in_default-parts_of.ensures) (bstr_bytes c.in-Some.destination) has in
    IfOk-weaker c.differs_alone.result _ _
    (λ does. told_else _ _ _ does
    (λ same n s from by. subst (IsSameAlone (all_of c.args.lists.now) (rest_of c.args.lists.now))
    (sym (only n from.word from.writes)) same))
    (rw c.as_bytes.ensures at c.differs_alone.ensures)

pub parts_of-requires-2 : goal.parts_of-requires-2
parts_of-requires-2 c x is = accepted_few (reading_of c.args.spec.now) x c.args.spec.now.accepted
    (inl (sym c.source.ensures ∙ is))

pub returns-in_default-parts_of-2 : goal.returns-in_default-parts_of-2
returns-in_default-parts_of-2 c r are done q inside also =
    let (d, is, split) = c.in-Some-parts_of.ensures in
    absurd (source_starred (reading_of c.args.spec.now) c.args.spec.now.accepted d _ _
    (sym c.destination-2.ensures ∙ is) split (rw c.source.ensures at c.in_default-parts_of-2.ensures))

pub parts_of-requires-3 : goal.parts_of-requires-3
parts_of-requires-3 c x is = accepted_few (reading_of c.args.negative.now) x c.args.negative.now.accepted
    (inl (sym c.source-2.ensures ∙ is))

pub excludes_one-requires-clause-plain : goal.excludes_one-requires-clause-plain
excludes_one-requires-clause-plain c = rw c.source-2.ensures at c.in-None.ensures

pub returns-in-None : goal.returns-in-None
returns-in-None c r are done q inside also =
    let (d, is, split) = c.in-Some-parts_of.ensures in
    let (y, has, near) = c.in-Some-parts_of-2.ensures in
    let x = reading_of c.args.spec.now in
    c.excludes_one.ensures r are done q (record {
      positive = subst IsPositive also.mode c.if-is_negative.ensures;
      source = completed_near q x also y _ _ (sym c.source.ensures ∙ has) near;
      destination = completed_far q x also d _ _ (sym c.destination-2.ensures ∙ is) split;
    })

pub returns-in-Some-parts_of-3 : goal.returns-in-Some-parts_of-3
returns-in-Some-parts_of-3 c r are done q inside also =
    let (d, is, split) = c.in-Some-parts_of.ensures in
    let (y, has, near) = c.in-Some-parts_of-2.ensures in
    let (v, own, parts) = c.in-Some-parts_of-3.ensures in
    let x = reading_of c.args.spec.now in
    c.excludes_shared.ensures r are (sym done.mode ∙ c.requires)
    (completed_near r (reading_of c.args.negative.now) done v _ _ (sym c.source-2.ensures ∙ own) parts) q inside
    (record {
      positive = subst IsPositive also.mode c.if-is_negative.ensures;
      source = completed_near q x also y _ _ (sym c.source.ensures ∙ has) near;
      destination = completed_far q x also d _ _ (sym c.destination-2.ensures ∙ is) split;
    })
