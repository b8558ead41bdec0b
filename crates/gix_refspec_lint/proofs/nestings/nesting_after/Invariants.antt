use Rattle.gix_refspec_lint.proofs.Common.{List, None, ◌∷◌, slash, Reading, HasPattern, IsGroupOf}
use Rattle.gix_refspec_lint.proofs.lemmas.NestFoundLemmas.{HoldsBefore}
use Rattle.gix_refspec_lint.specs.Private.Nestings.{IsFollowed, IsFoundIf}

abbrev pub invariant-loop-index : Rattle.gix_refspec_lint.proofs.nestings.nesting_after.Given.invariant-loop-index
invariant-loop-index l =
    (g : List Reading) → IsGroupOf g l.two.group.now → HasPattern l.two.group.now l.two.upper l.above.0.now
    l.above.1.now → HasPattern l.two.group.now l.two.lower l.below.0.now l.below.1.now
    → HoldsBefore (λ p a. IsFoundIf g l.two.upper l.two.lower (IsFollowed l.below.0.now p (slash ∷ a)) None)
    l.below.1.now l.index
