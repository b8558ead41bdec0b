use Rattle.gix_refspec_why.proofs.Common.{◌∙◌, sym, subst, MatchOption, IsContesting}
use Rattle.gix_refspec_why.specs.declared.Rival.{Rival}
use Rattle.gix_refspec_why.proofs.rivals.Rivals.contesting.Goals as goal

pub returns : goal.returns
returns c l n are =
    let d = c.args.destination.now in
    subst (λ found. MatchOption found ((rival : Rival) → ¬ (IsContesting l n d rival)) (IsContesting l n d))
    (sym (c.copied.ensures ∙ c.get.ensures.value)) (are.others d)
