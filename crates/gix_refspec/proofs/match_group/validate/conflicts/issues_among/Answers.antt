use Rattle.gix_refspec.proofs.Common.{◌≡◌, ◌-◌, ◌≤◌, length, take, drop, arith, drop-drop, length-drop, take_all, rules}
use Rattle.gix_refspec.proofs.lemmas.validate.ConflictLemmas.{all_reported, conflicting_of_run, reported_more}
use Rattle.gix_refspec.proofs.lemmas.validate.ConflictLemmas.{reported_none}
use Rattle.gix_refspec.proofs.match_group.validate.conflicts.issues_among.Goals as goal

pub loop-at-init : goal.loop-at-init
loop-at-init c = search (rules, reported_none, c.requires.firsts, c.new-issues.ensures.items)

pub add_issue-requires-clause-conflicting : goal.add_issue-requires-clause-conflicting
add_issue-requires-clause-conflicting c = search (rules, conflicting_of_run, length-drop, take_all)

pub loop-at-preserved : goal.loop-at-preserved
loop-at-preserved c =
    let firsts = c.args.firsts.now in
    let at = c.loop-at.at in
    let n = c.len_of_run-len.result in
    let told = c.len_of_run-len.ensures in
    let rest : take (length firsts - at) (drop at firsts) ≡ drop at firsts = take_all (length firsts - at)
    (drop at firsts) (omega (arith, length-drop at firsts)) in
    let fits : n ≤ length (drop at firsts) = rw rest at told.fits in (
      omega (arith, fits, length-drop at firsts),
      rw (← drop-drop n at firsts) (reported_more _ _ (drop at firsts) n _ _ told.some fits (rw rest at told.split)
          (rw rest at c.in_ok-add_issue.ensures) c.loop-at.invariant.1),
    )

pub returns : goal.returns
returns c = all_reported _ _ (drop c.loop-at.at c.args.firsts.now) _
    (omega (arith, length-drop c.loop-at.at c.args.firsts.now)) c.loop-at.invariant.1
