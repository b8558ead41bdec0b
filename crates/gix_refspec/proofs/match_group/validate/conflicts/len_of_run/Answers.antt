use Rattle.gix_refspec.proofs.Common.{◌≡◌, ℕ, get_or, length, take, drop, ap, ◌∙◌, subst, arith, get_or_default, Update}
use Rattle.gix_refspec.proofs.Common.{IsRun}
use Rattle.gix_refspec.proofs.lemmas.validate.UpdateLemmas.{all_more, past_end, split_at, differ_from_test}
use Rattle.gix_refspec.proofs.lemmas.validate.UpdateLemmas.{same_from_test}
use Rattle.gix_refspec.proofs.match_group.validate.conflicts.len_of_run.Goals as goal

pub returns-then-ne-clause-split : goal.returns-then-ne-clause-split
returns-then-ne-clause-split c = split_at c.args.updates.now c.loop-len.len past_end c.requires.some c.requires.order
    (c.loop-len.invariant past_end)
    (λ below. differ_from_test (get_or c.args.updates.now c.loop-len.len past_end).destination.now
    (get_or c.args.updates.now 0 past_end).destination.now c.ne.result c.ne.ensures c.if-ne.true)

pub loop-len-preserved : goal.loop-len-preserved
loop-len-preserved c d =
    let cs = c.args.updates.now in
    let same : (get_or cs c.loop-len.len past_end).destination.now ≡ (get_or cs 0 past_end).destination.now =
    same_from_test (get_or cs c.loop-len.len past_end).destination.now (get_or cs 0 past_end).destination.now
    c.ne.result c.ne.ensures c.if-ne.false in
    all_more (λ (x : Update). x.destination.now ≡ (get_or cs 0 d).destination.now) cs c.loop-len.len past_end
    c.loop-len-test.true (c.loop-len.invariant d)
    (same ∙ ap (λ (x : Update). x.destination.now) (get_or_default cs 0 past_end d (omega arith)))

pub returns-clause-split : goal.returns-clause-split
returns-clause-split c =
    let whole : c.loop-len.len ≡ length c.args.updates.now = omega arith in
    subst (λ (n : ℕ). IsRun (take n c.args.updates.now) (drop n c.args.updates.now)) whole
    (split_at c.args.updates.now c.loop-len.len past_end c.requires.some c.requires.order
    (c.loop-len.invariant past_end) (λ below. absurd (omega arith)))
