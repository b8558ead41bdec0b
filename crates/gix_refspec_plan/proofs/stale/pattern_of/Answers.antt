-- Accepted specs have sides with one star or none.
use Rattle.gix_refspec_plan.proofs.Common.{inl, inr, sym, ◌∙◌, reading_of, accepted_few}
use Rattle.gix_refspec_plan.proofs.lemmas.stale.SourceLemmas.{unsplit_unwritten}
use Rattle.gix_refspec_plan.proofs.stale.pattern_of.Goals as goal

pub parts_of-requires : goal.parts_of-requires
parts_of-requires c x is = accepted_few (reading_of c.args.spec.now) x c.args.spec.now.accepted
    (inr (sym c.destination.ensures ∙ is))

pub parts_of-source-requires : goal.parts_of-source-requires
parts_of-source-requires c x is = accepted_few (reading_of c.args.spec.now) x c.args.spec.now.accepted
    (inl (sym c.source.ensures ∙ is))

pub returns-in_default : goal.returns-in_default
returns-in_default c p = unsplit_unwritten (reading_of c.args.spec.now) p
    (rw c.destination.ensures at c.in_default.ensures)
