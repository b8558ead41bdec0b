use Rattle.gix_refspec_lint.proofs.lemmas.IndexLemmas.{read_at}
use Rattle.gix_refspec_diff.proofs.lemmas.BlockerLemmas.{are_blockers}
use Rattle.gix_refspec_diff.proofs.blockers.blockers.Goals as goal

pub returns : goal.returns
returns c g h are =
    are_blockers g h c.args.lists.now.one.now.specs.now c.args.lists.now.other.now.specs.now are.one.completed
    are.other.completed c.args.case.now.index _
    (read_at _ _ c.index-ones-case.result c.requires c.index-ones-case.is) _ _ _ _
    c.in_ok-away.ensures (rw (c.as_slice.ensures.value, c.new-names.ensures.items) at c.in_ok-add_blockers.ensures)
    (rw c.as_slice-2.ensures.value at c.in_ok-add_blockers-2.ensures)
