use Rattle.gix_refspec_plan.proofs.{Common.rules, lemmas.plan.JudgeLemmas.{mappings_of, tracked_mappings}}
use Rattle.gix_refspec_plan.proofs.plan_fetch.Goals as goal

pub judged-requires : goal.judged-requires
judged-requires c = record {
  firsts = rw (c.as_slice-5.ensures.value, ← c.as_slice-2.ensures.value) (mappings_of _ _ _ c.in_ok-firsts.ensures);
  seconds = tracked_mappings _ _ _ _ _ c.in_ok-tracked.ensures;
}

pub returns : goal.returns
returns c =
    let firsts = rw (c.as_slice-2.ensures.value) at c.in_ok-firsts.ensures in
    let judged = rw (c.as_slice-5.ensures.value) at c.in_ok-updates.ensures in
    let lacks = rw (c.as_slice-4.ensures.value) at c.in_ok-missing.ensures in
    search (rules, c.in_ok-asked.ensures, firsts, c.in_ok-tracked.ensures, judged, lacks)
