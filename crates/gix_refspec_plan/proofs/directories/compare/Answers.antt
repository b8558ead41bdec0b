use Rattle.std.proofs.Common.{◌≡◌, ◌≤◌, ◌⊎◌, length, sym, ◌∙◌, arith}
use Rattle.gix_refspec_plan.proofs.lemmas.plan.DirectoryLemmas.{at_end}
use Rattle.gix_refspec_plan.proofs.directories.compare.Goals as goal

pub returns : goal.returns
returns c =
    let xs = c.args.one.now in
    let ys = c.args.other.now in
    let i = c.loop-index.index in
    let in_xs : i ≤ length xs = omega arith in
    let in_ys : i ≤ length ys = omega arith in
    let over : (i ≡ length xs) ⊎ (i ≡ length ys) = grind arith in
    c.cmp-2.ensures ∙ sym (c.loop-index.invariant ∙ at_end xs ys i in_xs in_ys over)
