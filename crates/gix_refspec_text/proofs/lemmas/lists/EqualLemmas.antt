-- Lists that are compared element by element.
use Rattle.gix_refspec_text.proofs.Common.{arith, [], ◌≡◌, ◌↔◌, Bool, true, List, ◌∷◌, map, refl, pointwise, and_parts}
use Rattle.gix_refspec_text.proofs.Common.{and_from}

pub same_keys : {A K : Type 0} (E : A → A → Bool) (key : A → K) → ((a b : A) → (E a b ≡ true) ↔ (key a ≡ key b))
    → (xs ys : List A) → (pointwise E xs ys ≡ true) ↔ (map key xs ≡ map key ys)
same_keys E key same [] [] = ((λ told. refl), (λ told. refl))
same_keys E key same (x ∷ xs) (y ∷ ys) = grind (arith, same x y, same_keys E key same xs ys, and_parts, and_from)
same_keys E key same xs ys = ((λ told. absurd (cc)), (λ told. absurd (cc)))
