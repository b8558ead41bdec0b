use Rattle.gix_refspec_why.proofs.Common.{IfOk-weaker, map, reading_of}
use Rattle.gix_refspec_why.proofs.effects_among.Goals as goal

pub completed_specs-requires : goal.completed_specs-requires
completed_specs-requires c = rw c.as_slice.ensures.value c.in_ok-names.ensures

pub fates_of-requires-clause-kept : goal.fates_of-requires-clause-kept
fates_of-requires-clause-kept c = rw (c.as_slice-3.ensures.value, c.as_slice-4.ensures.value)
    (rw c.as_slice-2.ensures.value at c.in_ok-kept.ensures)

pub returns : goal.returns
returns c =
    IfOk-weaker c.fates_of.result _ _
    (λ effects have. record {
      completed = map reading_of c.as_slice-3.result.now;
      are = rw c.as_slice-3.ensures.value c.in_ok-completed.ensures;
      have = have;
    })
    c.fates_of.ensures
