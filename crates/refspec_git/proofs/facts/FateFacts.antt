-- The ref and the remote that arguments name, and which refs are fetched by no spec.
use Rattle.std.proofs.Common.{[], ◌∷◌, None, Some, codes, refl}
use Rattle.gix_refspec_plan.specs.declared.Origin.TheVariants as origin
use Rattle.refspec_git.specs.Fates.{IsOfNoSpec, NameBoth}
use Rattle.refspec_git.proofs.facts.ConfiguredFacts.{lent}

-- a ref alone, and one before a remote
pub named : NameBoth None (lent (codes "main") ∷ []) (lent (codes "main")) None
    × NameBoth None (lent (codes "main") ∷ (lent (codes "up") ∷ [])) (lent (codes "main")) (Some (lent (codes "up")))
named = ((refl, refl), (refl, refl))

-- beside `--remote` there is no second argument
pub no_second : ¬ (NameBoth (Some (lent (codes "up"))) (lent (codes "main") ∷ (lent (codes "up") ∷ []))
    (lent (codes "main")) (Some (lent (codes "up"))))
no_second is = is

-- `HEAD` is fetched by no spec, and tags by that of all
pub by_default : IsOfNoSpec origin.Default × ¬ (IsOfNoSpec origin.AllTags)
by_default = (tt, λ is. is)
