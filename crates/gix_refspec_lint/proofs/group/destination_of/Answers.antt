use Rattle.gix_refspec_lint.proofs.Common.{inl, inr, sym, ◌∙◌, IfOk-weaker, reading_of, accepted_few}
use Rattle.gix_refspec_lint.proofs.lemmas.FailLemmas.{destination_told}
use Rattle.gix_refspec_lint.proofs.group.destination_of.Goals as goal

pub parts_of-requires : goal.parts_of-requires
parts_of-requires c x is = accepted_few (reading_of c.args.spec.now) x c.args.spec.now.accepted
    (inl (sym c.source.ensures ∙ is))

pub parts_of-requires-2 : goal.parts_of-requires-2
parts_of-requires-2 c x is = accepted_few (reading_of c.args.spec.now) x c.args.spec.now.accepted
    (inr (sym c.destination.ensures ∙ is))

pub returns-in-Some-Some : goal.returns-in-Some-Some
returns-in-Some-Some c =
    IfOk-weaker c.with_its_word.result _ _
    (destination_told (reading_of c.args.spec.now) c.in-Some-Some.near c.in-Some-Some.far
    (rw c.source.ensures at c.in-Some-Some.ensures) (rw c.destination.ensures at c.in-Some-Some.ensures')
    c.args.source.now)
    c.with_its_word.ensures
