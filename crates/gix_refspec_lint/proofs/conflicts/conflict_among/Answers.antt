-- Where no word to try first makes an example, the names that decide do.
use Rattle.gix_refspec_lint.proofs.Common.{◌++◌, take_all, arith, IfOk-weaker, bstring_bytes, one_more_mapped, NoneAt}
use Rattle.gix_refspec_lint.proofs.lemmas.FoundLemmas.{among_found}
use Rattle.gix_refspec_lint.proofs.conflicts.conflict_among.Goals as goal

pub loop-word-2-preserved : goal.loop-word-2-preserved
loop-word-2-preserved c g is =
    one_more_mapped bstring_bytes (λ w. NoneAt g c.args.first c.args.second
    (c.args.common.now.prefix.now ++ (w ++ c.args.common.now.suffix.now))) _ _ _
    (c.loop-word-2.invariant g is) c.loop-word-2-test.true
    c.word-item.is (rw (c.as_bstr-in-loop-word-2.ensures, c.in_ok-name-2.ensures) at
    (rw c.in_default-2.is at (c.in_ok-conflict-2.ensures g is)))

pub returns-in-Some : goal.returns-in-Some
returns-in-Some c g is have = rw c.in-Some.is at (c.in_ok-conflict.ensures g is)

pub returns-in-Some-2 : goal.returns-in-Some-2
returns-in-Some-2 c g is have = rw c.in-Some-2.is at (c.in_ok-conflict-2.ensures g is)

pub returns : goal.returns
returns c g is have =
    IfOk-weaker c.conflict_overlapping.result _ _ (λ found. among_found g _ is _ _ _ have found
    (rw (
      take_all c.loop-word-2.word-index c.deref-word-items.result.now (omega arith),
      c.deref-word-items.ensures.value,
      is.words,
    ) at (c.loop-word-2.invariant g is)))
    (c.conflict_overlapping.ensures g is have)
