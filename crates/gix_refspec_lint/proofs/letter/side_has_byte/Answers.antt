use Rattle.gix_refspec_lint.proofs.Common.{ℕ, List, [], ◌∷◌, MatchBool, nat_eq, arith, eqb-true, eqb-false, list_any}
use Rattle.gix_refspec_lint.proofs.Common.{bstr_bytes, Lacks}

tells : (b : ℕ) (x : List ℕ) → MatchBool (list_any (λ c. nat_eq c b) x) (¬ (Lacks b x)) (Lacks b x)
tells b [] = tt
tells b (c ∷ x) = grind (arith, tells b x, eqb-true, eqb-false)

pub returns-in-Some : Rattle.gix_refspec_lint.proofs.letter.side_has_byte.Goals.returns-in-Some
returns-in-Some c = rw (c.in-Some.is, c.contains.ensures.value, c.as_bytes.ensures)
    (tells c.args.byte (bstr_bytes c.in-Some.side))
