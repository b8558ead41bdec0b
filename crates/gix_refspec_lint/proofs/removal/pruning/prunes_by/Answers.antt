use Rattle.gix_refspec_lint.proofs.Common.{inl, inr, sym, ◌∙◌, subst, reading_of, accepted_few, IsPositive}
use Rattle.gix_refspec_lint.proofs.lemmas.StaleLemmas.{completed_far, completed_near, source_starred}
use Rattle.gix_refspec_lint.proofs.removal.pruning.prunes_by.Goals as goal

pub parts_of-requires : goal.parts_of-requires
parts_of-requires c x is = accepted_few (reading_of c.args.spec.now) x c.args.spec.now.accepted
    (inr (sym c.destination.ensures ∙ is))

pub name_prunes-requires : goal.name_prunes-requires
name_prunes-requires c = rw c.destination.ensures at c.in_default.ensures

pub parts_of-requires-2 : goal.parts_of-requires-2
parts_of-requires-2 c x is = accepted_few (reading_of c.args.spec.now) x c.args.spec.now.accepted
    (inl (sym c.source.ensures ∙ is))

pub returns-in-None : goal.returns-in-None
returns-in-None c r are done =
    let (d, is, split) = c.in-Some.ensures in
    absurd (source_starred (reading_of c.args.spec.now) c.args.spec.now.accepted d _ _ (sym c.destination.ensures ∙ is)
    split (rw c.source.ensures at c.in-None.ensures))

pub returns-in-Some-parts_of : goal.returns-in-Some-parts_of
returns-in-Some-parts_of c r are done =
    let (d, is, split) = c.in-Some.ensures in
    let (y, has, near) = c.in-Some-parts_of.ensures in
    let x = reading_of c.args.spec.now in
    c.pattern_prunes.ensures r are (record {
      positive = subst IsPositive done.mode c.if-is_negative.ensures;
      source = completed_near r x done y _ _ (sym c.source.ensures ∙ has) near;
      destination = completed_far r x done d _ _ (sym c.destination.ensures ∙ is) split;
    })
