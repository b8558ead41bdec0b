-- What becomes of the mappings of the names with the words becomes of all.
use Rattle.gix_refspec_lint.proofs.Common.{◌++◌, ℕ, List, inl, inr, take_all, arith, bstring_bytes, all_weaker}
use Rattle.gix_refspec_lint.proofs.Common.{one_more_mapped, name, Explains}
use Rattle.gix_refspec_lint.proofs.lemmas.IdleSpecLemmas.{idle_by, words_explain}
use Rattle.gix_refspec_lint.proofs.idle.idle_by_words.Goals as goal

pub returns-in-None : goal.returns-in-None
returns-in-None c g is r at positive source = rw c.in-None.is at (c.in_ok-idle_at.ensures g is)

pub loop-word-preserved : goal.loop-word-preserved
loop-word-preserved c g is =
    let k = c.args.index in
    let o = c.args.others in
    let around : List ℕ → List ℕ = λ w. c.args.prefix.now ++ (w ++ c.args.suffix.now) in
    let told = rw (c.source_named.ensures, c.in_ok-name.ensures, c.as_bytes.ensures, c.as_bstr.ensures) at
    (rw c.in-Some.is at (c.in_ok-idle_at.ensures g is)) in
    let old = c.loop-word.invariant g is in
    let new = c.stronger-reason.result in
    let before = all_weaker (λ w. Explains g o k (name (around w)) c.loop-word.reason)
    (λ w. Explains g o k (name (around w)) new)
    (λ w e. c.stronger-reason.ensures.explains g o k (name (around w)) (inl e)) _ old.0 in
    let more = one_more_mapped bstring_bytes
    (λ w. Explains g o k (name (around w)) new) c.deref-word-items.result.now c.loop-word.word-index c.word-item.result
    before c.loop-word-test.true c.word-item.is in (
      more (c.stronger-reason.ensures.explains g o k (name (around (bstring_bytes c.word-item.result))) (inr told.0)),
      c.stronger-reason.ensures.shown g o k old.1 told.1,
    )

pub returns : goal.returns
returns c g is r at positive source =
    let old = c.loop-word.invariant g is in
    idle_by g _ _ c.loop-word.reason
    (words_explain is.letter g is.free _ is.completed c.args.others _ r at positive c.args.prefix.now c.args.suffix.now
    source c.loop-word.reason
    (rw (
      take_all c.loop-word.word-index c.deref-word-items.result.now (omega arith),
      c.deref-word-items.ensures.value,
      is.words,
    ) at old.0)) old.1
