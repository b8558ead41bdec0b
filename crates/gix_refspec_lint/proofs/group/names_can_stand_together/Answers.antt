use Rattle.gix_refspec_lint.proofs.Common.{inl, inr, refl, sym, ◌∙◌, false≢true}
use Rattle.gix_refspec_lint.proofs.lemmas.StorableLemmas.{together_told}
use Rattle.gix_refspec_lint.proofs.group.names_can_stand_together.Goals as goal

pub returns-then-is_directory_of : goal.returns-then-is_directory_of
returns-then-is_directory_of c all =
    all c.args.one.now c.args.other.now (inl refl) (inr (inl refl))
    (c.is_directory_of.ensures.0 c.if-is_directory_of.true)

pub returns : goal.returns
returns c =
    together_told c.args.one.now c.args.other.now _
    (λ d. false≢true (sym c.if-is_directory_of.false ∙ c.is_directory_of.ensures.1 d)) c.is_directory_of-2.ensures
