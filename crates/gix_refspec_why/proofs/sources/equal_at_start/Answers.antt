use Rattle.gix_refspec_why.proofs.Common.{◌≡◌, ◌⊎◌, ◌<◌, inl, inr, arith, length, subst, take}
use Rattle.gix_refspec_why.proofs.lemmas.TextLemmas.{agree_at_start, differ_at, end_of_one, end_of_other}
use Rattle.gix_refspec_why.proofs.sources.equal_at_start.Goals as goal

pub returns-then-one-index : goal.returns-then-one-index
returns-then-one-index c =
    let x = c.args.one.now in
    let y = c.args.other.now in
    let in_x : c.loop-index.index < length x = omega arith in
    let in_y : c.loop-index.index < length y = omega arith in
    agree_at_start x y c.loop-index.index (omega arith) c.loop-index.invariant
    (differ_at x y c.loop-index.index in_x in_y c.if-one-index.true)

pub returns : goal.returns
returns c =
    let x = c.args.one.now in
    let y = c.args.other.now in
    let len = c.min-len.result in
    let all : c.loop-index.index ≡ len = omega arith in
    let over : (len ≡ length x) ⊎ (len ≡ length y) = grind arith in
    agree_at_start x y len (omega arith) (subst (λ k. take k x ≡ take k y) all c.loop-index.invariant)
    (elim over [ inl a ↦ end_of_one x y len a | inr b ↦ end_of_other x y len b ])
