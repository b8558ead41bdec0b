-- What isn't flagged is needed.
use Rattle.gix_refspec_match.proofs.lemmas.duplicates.RedundantLemmas.{needed_left}
use Rattle.gix_refspec_match.proofs.duplicates.redundant.without_redundant.Goals as goal

pub returns-clause-ok : goal.returns-clause-ok
returns-clause-ok c = needed_left c.args.texts.items c.drop_flagged.new.elements.items c.in_ok-flags.flags.items
    (rw c.as_slice.ensures.value at c.in_ok-flags.ensures.ok)
    (rw c.as_slice.ensures.value at c.in_ok-flags.ensures.begin)
    (rw c.as_slice-2.ensures.value at c.drop_flagged.ensures)
