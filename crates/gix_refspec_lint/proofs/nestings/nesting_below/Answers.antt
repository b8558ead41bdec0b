-- Where no name that decides makes an example below the directory, none does.
use Rattle.gix_refspec_lint.proofs.Common.{◌≡◌, ◌++◌, ◌∷◌, [], slash, subst, ◌∙◌, refl, take_all, arith}
use Rattle.gix_refspec_lint.proofs.Common.{one_more_mapped, bstring_bytes, AreApart, AreCommon}
use Rattle.gix_refspec_lint.proofs.lemmas.NestFoundLemmas.{none_apart, none_below}
use Rattle.gix_refspec_lint.specs.Private.Nestings.{NoneNested}
use Rattle.gix_refspec_lint.proofs.nestings.nesting_below.Goals as goal

pub returns-in_default : goal.returns-in_default
returns-in_default c g is lack lower d e at =
    let folder : c.as_bytes.result.now ≡ c.args.directory.now ++ (slash ∷ []) = c.as_bytes.ensures ∙ c.as_bstr.ensures
    ∙ c.in_ok-folder.ensures in
    rw at (none_apart g _ is _ _ _ _ _ lower
    (subst (λ f. AreApart f [] c.args.below.0.now c.args.below.1.now) folder c.in_default.ensures) e)

pub returns-in-Some-2 : goal.returns-in-Some-2
returns-in-Some-2 c g is lack lower = rw c.in-Some-2.is at (c.in_ok-found.ensures g is)

pub returns-in-Some-3 : goal.returns-in-Some-3
returns-in-Some-3 c g is lack lower = rw c.in-Some-3.is at (c.in_ok-found-2.ensures g is)

pub loop-name-preserved : goal.loop-name-preserved
loop-name-preserved c g is =
    one_more_mapped bstring_bytes (NoneNested g c.args.two.now.upper c.args.two.now.lower c.args.directory.now) _ _ _
    (c.loop-name.invariant g is) c.loop-name-test.true c.name-item.is
    ((rw c.in_default-3.is at (c.in_ok-found-2.ensures g is)) _ _ (refl, refl))

pub returns : goal.returns
returns c g is lack lower d e at =
    let folder : c.as_bytes.result.now ≡ c.args.directory.now ++ (slash ∷ []) = c.as_bytes.ensures ∙ c.as_bstr.ensures
    ∙ c.in_ok-folder.ensures in
    rw at (none_below g _ is _ _ _ _ _ lower lack c.in-Some.common
    (subst (λ f. AreCommon f [] c.args.below.0.now c.args.below.1.now c.in-Some.common) folder c.in-Some.ensures) _
    (c.in_ok-deciding_names.ensures is.letter is.words)
    (rw (take_all c.loop-name.name-index c.deref-name-items.result.now (omega arith), c.deref-name-items.ensures.value)
    at (c.loop-name.invariant g is)) e)
