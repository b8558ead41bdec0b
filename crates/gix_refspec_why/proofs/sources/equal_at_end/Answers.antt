use Rattle.gix_refspec_why.proofs.Common.{◌≡◌, ◌⊎◌, ◌<◌, ◌+◌, ◌-◌, ap, arith, drop, length, subst, sym, ◌∙◌}
use Rattle.gix_refspec_why.proofs.lemmas.TextLemmas.{agree_at_end, differ_before, none_before}
use Rattle.gix_refspec_why.proofs.sources.equal_at_end.Goals as goal

pub returns-then-one-index : goal.returns-then-one-index
returns-then-one-index c =
    let x = c.args.one.now in
    let y = c.args.other.now in
    let k = c.loop-index.index in
    let in_x : k < length x = omega arith in
    let in_y : k < length y = omega arith in
    let i_is : length x - k ≡ (length x - 1 - k) + 1 = omega arith in
    let j_is : length y - k ≡ (length y - 1 - k) + 1 = omega arith in
    agree_at_end x y k ((length x - 1 - k) + 1) ((length y - 1 - k) + 1) (omega arith) (omega arith)
    (ap (λ i. drop i x) (sym i_is) ∙ c.loop-index.invariant ∙ ap (λ j. drop j y) j_is)
    (differ_before x y (length x - 1 - k) (length y - 1 - k) (omega arith) (omega arith) c.if-one-index.true)

pub returns : goal.returns
returns c =
    let x = c.args.one.now in
    let y = c.args.other.now in
    let len = c.min-len.result in
    let all : c.loop-index.index ≡ len = omega arith in
    let over : (length x - len ≡ 0) ⊎ (length y - len ≡ 0) = grind arith in
    agree_at_end x y len (length x - len) (length y - len) (omega arith) (omega arith)
    (subst (λ k. drop (length x - k) x ≡ drop (length y - k) y) all c.loop-index.invariant)
    (none_before x y (length x - len) (length y - len) over)
