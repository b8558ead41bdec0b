-- the index of the first claim of another destination splits off the run
use Rattle.std.proofs.Common.{◌≡◌, ℕ, [], get_or, length, take, drop, ap, ◌∙◌, subst, arith}
use Rattle.std.proofs.lemmas.List.{get_or_default}
use Rattle.refspec_fetch.specs.declared.conflicts.Claimed.{Claimed}
use Rattle.refspec_fetch.specs.Conflicts.{IsRun}
use Rattle.gix_refspec.proofs.lemmas.validate.UpdateLemmas.{all_more, differ_from_test, same_from_test}
use Rattle.refspec_fetch.proofs.ClaimLemmas.{split_at}
use Rattle.refspec_fetch.proofs.conflicts.len_of_run.Goals as goal

-- the value of a read past the end
none : Claimed
none = record { destination = record { ref_ptr = (0, 0); now = [] }; index = 0 }

pub returns-then-ne-clause-split : goal.returns-then-ne-clause-split
unfolding none
returns-then-ne-clause-split c = split_at c.args.claims.now c.loop-len.len none c.requires.some c.requires.order
    (c.loop-len.invariant none)
    (λ below. differ_from_test (get_or c.args.claims.now c.loop-len.len none).destination.now
    (get_or c.args.claims.now 0 none).destination.now c.ne.result c.ne.ensures c.if-ne.true)

pub loop-len-preserved : goal.loop-len-preserved
unfolding none
loop-len-preserved c d =
    let cs = c.args.claims.now in
    let same : (get_or cs c.loop-len.len none).destination.now ≡ (get_or cs 0 none).destination.now =
    same_from_test (get_or cs c.loop-len.len none).destination.now (get_or cs 0 none).destination.now c.ne.result
    c.ne.ensures c.if-ne.false in
    all_more (λ (x : Claimed). x.destination.now ≡ (get_or cs 0 d).destination.now) cs c.loop-len.len none
    c.loop-len-test.true (c.loop-len.invariant d)
    (same ∙ ap (λ (x : Claimed). x.destination.now) (get_or_default cs 0 none d (omega arith)))

pub returns-clause-split : goal.returns-clause-split
returns-clause-split c =
    let cs = c.args.claims.now in
    let whole : c.loop-len.len ≡ length cs = omega arith in
    subst (λ (n : ℕ). IsRun (take n cs) (drop n cs)) whole
    (split_at cs c.loop-len.len none c.requires.some c.requires.order (c.loop-len.invariant none)
    (λ below. absurd (omega arith)))
