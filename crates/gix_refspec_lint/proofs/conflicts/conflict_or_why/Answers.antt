use Rattle.gix_refspec_lint.proofs.{Common.{sym, ◌∙◌, arith, same_Some}, lemmas.IndexLemmas.reading_at}
use Rattle.gix_refspec_lint.proofs.conflicts.conflict_or_why.Goals as goal

pub returns-in-Some : goal.returns-in-Some
returns-in-Some c g is one other at also = rw c.in-Some.is at (c.in_ok-conflict.ensures g is)

pub returns-in_ok-why_none-in-None : goal.returns-in_ok-why_none-in-None
returns-in_ok-why_none-in-None c g is one other at also =
    let cs = c.args.group.now.specs.now in
    let first = same_Some _ _
    (sym (reading_at cs c.args.first c.index-group-first.result (omega (arith, c.requires.0, c.requires.1)))
    ∙ at) in
    let second = same_Some _ _ (sym (reading_at cs c.args.second c.index-group-second.result c.requires.1) ∙ also) in
    (rw c.in-None.is at (c.in_ok-conflict.ensures g is), rw (first, second) at (c.in_ok-why_none-in-None.ensures g is))
