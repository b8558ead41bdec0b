-- Lists that a function is mapped over.
use Rattle.gix_refspec_text.proofs.Common.{[], ◌≡◌, ℕ, zero, suc, ◌+◌, ◌<◌, map, take, get_or, List, ◌∷◌, ◌++◌, length}
use Rattle.gix_refspec_text.proofs.Common.{sym, ap, ◌∙◌, subst, arith, AllByRecursion, map_more}
use Rattle.gix_refspec_text.proofs.lemmas.lists.AllLemmas.{all_join}

pub map_next : {A B : Type 0} (f : A → B) (xs : List A) (i : ℕ) (x : A) → i < length xs → x ≡ get_or xs i x
    → map f (take (i + 1) xs) ≡ map f (take i xs) ++ f x ∷ []
map_next f xs i x below is = map_more f xs i x below ∙ ap (λ y. map f (take i xs) ++ f y ∷ []) (sym is)

pub each_mapped : {A B : Type 0} (f : A → B) (P : B → Type 0) (xs : List A) (k : ℕ) (x : A)
    → AllByRecursion P (map f xs) → k < length xs → x ≡ get_or xs k x → P (f x)
each_mapped f P [] k x all below is = absurd (omega (arith, below))
each_mapped f P (y ∷ xs) zero x all below is = subst (λ z. P (f z)) (sym is) all.0
each_mapped f P (y ∷ xs) (suc k) x all below is = each_mapped f P xs k x all.1 (omega (arith, below)) is

pub one_more_mapped : {A B : Type 0} (f : A → B) (P : B → Type 0) (xs : List A) (k : ℕ) (x : A)
    → AllByRecursion P (map f (take k xs)) → k < length xs → x ≡ get_or xs k x → P (f x)
    → AllByRecursion P (map f (take (k + 1) xs))
one_more_mapped f P xs k x all below is holds =
    subst (AllByRecursion P) (sym (map_next f xs k x below is))
    (all_join P (map f (take k xs)) (f x ∷ []) all (holds, tt))
