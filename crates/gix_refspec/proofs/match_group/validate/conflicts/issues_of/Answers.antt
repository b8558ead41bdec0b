use Rattle.gix_refspec.proofs.Common.{sym, ◌∙◌, eqb-true}
use Rattle.gix_refspec.proofs.lemmas.validate.ConflictLemmas.{free_empty, no_conflicts}
use Rattle.gix_refspec.proofs.lemmas.validate.FirstLemmas.{firsts_from_updates}
use Rattle.gix_refspec.proofs.match_group.validate.conflicts.issues_of.Goals as goal

pub returns-then-is_empty-clause-ok : goal.returns-then-is_empty-clause-ok
returns-then-is_empty-clause-ok c =
    rw c.new.ensures.items
    (free_empty _ c.args.mappings.now (eqb-true _ _ (sym c.is_empty.ensures ∙ c.if-is_empty.true)))

pub returns-then-branch-clause-ok : goal.returns-then-branch-clause-ok
returns-then-branch-clause-ok c = rw c.new-then-branch.ensures.items
    (no_conflicts _ _ (c.in_ok-destinations_differ.ensures c.if-branch.true))

pub issues_among-requires-clause-firsts : goal.issues_among-requires-clause-firsts
issues_among-requires-clause-firsts c =
    rw c.as_slice-2.ensures.value
    (firsts_from_updates c.args.mappings.now c.in_ok-repeats.repeats.items c.in_ok-firsts.firsts.items
    c.in_ok-repeats.ensures.ok (rw c.as_slice.ensures.value at c.in_ok-firsts.ensures))
