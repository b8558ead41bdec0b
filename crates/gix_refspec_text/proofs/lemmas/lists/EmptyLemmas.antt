-- Texts that are empty, and texts that aren't.
use Rattle.gix_refspec_text.proofs.Common.{[], ◌≡◌, ◌≢◌, ◌==◌, ◌<◌, ℕ, List, ◌∷◌, true, false, length, refl, sym, ap}
use Rattle.gix_refspec_text.proofs.Common.{◌∙◌, arith, false≢true, eqb-true}

pub full_from_test : (x : List ℕ) → false ≡ (length x == 0) → x ≢ []
full_from_test x test empty = false≢true (test ∙ ap (λ y. length y == 0) empty)

pub empty_from_test : (x : List ℕ) → true ≡ (length x == 0) → x ≡ []
empty_from_test [] test = refl
empty_from_test (b ∷ x) test = absurd (omega (arith, eqb-true (length (b ∷ x)) 0 (sym test)))

pub some_bytes : (x : List ℕ) → x ≢ [] → 0 < length x
some_bytes [] some = absurd (some refl)
some_bytes (b ∷ x) some = omega arith
