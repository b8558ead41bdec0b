use Rattle.gix_refspec_why.proofs.Common.{◌∙◌, sym, subst, MatchOption, IsObstructing}
use Rattle.gix_refspec_why.proofs.lemmas.RivalLemmas.{nested_rival, unnested}
use Rattle.gix_refspec_why.specs.declared.Rival.{Rival}
use Rattle.gix_refspec_why.proofs.rivals.Rivals.obstructing.Goals as goal

pub returns-in_err-get : goal.returns-in_err-get
returns-in_err-get c l n are any =
    let d = c.args.destination.now in
    subst (λ found. MatchOption found ((rival : Rival) → ¬ (IsObstructing l d rival)) (IsObstructing l d))
    (sym c.from_residual.ensures)
    (unnested l d are.names are.are_names (rw (sym c.in_err-get.ensures.value) at (are.nested d)) any)

pub returns : goal.returns
returns c l n are any =
    let d = c.args.destination.now in
    let e = c.in_ok-get.field-0.now.now in
    let told = rw (sym c.in_ok-get.ensures.value) at (are.nested d) in
    subst (λ found. MatchOption found ((rival : Rival) → ¬ (IsObstructing l d rival)) (IsObstructing l d))
    (sym (c.copied.ensures ∙ c.get-2.ensures.value))
    (nested_rival l d e _ (are.all e) ((are.are_names e).0 told.1.0) told.1.1)
