use Rattle.gix_refspec_lint.proofs.Common.{arith, false}
use Rattle.gix_refspec_lint.proofs.lemmas.AlikeLemmas.{earlier_some, element_there, flag_tells}
use Rattle.gix_refspec_lint.proofs.alike.may_pair.Goals as goal

pub returns : goal.returns
returns c =
    let before = earlier_some _ _ c.in-Some.before c.in-Some.is c.requires.before in
    flag_tells _ c.args.row.now.first c.args.second c.if-row-second.false (λ none. record {
      index = c.in-Some.before;
      there = c.in-Some.is;
      behind = c.if-before-row.false;
      flag = element_there c.args.row.now.flags.now c.in-Some.before false false
          (omega (arith, before, c.requires.flags)) none;
    })
