-- Readings and the same with completed destinations.
use Rattle.gix_refspec_plan.proofs.Common.{ℕ, zero, suc, List, ◌∷◌, refl, sym, ◌∙◌, subst, arith, AllZip, Any, Contains}
use Rattle.gix_refspec_plan.proofs.Common.{Reading, IsExcluded, IsExcludedBy, IsCompleted, rules}

-- what an element is paired with in a zip
pub zip_partner : {X Y : Type 0} (R : X → Y → Type 0) (xs : List X) (ys : List Y) (x : X) → AllZip R xs ys
    → Contains xs x → (y : Y) × R x y × Contains ys y
zip_partner {X} R (z ∷ xs) (y ∷ ys) x all (zero, below, is) =
    (y, subst (λ (v : X). R v y) is all.0, (zero, omega arith, refl))
zip_partner R (z ∷ xs) (y ∷ ys) x all (suc k, below, is) = let (w, related, (j, inside, at)) =
    zip_partner R xs ys x all.1 (k, omega (arith, below), is) in (w, related, (suc j, omega (arith, inside), at))
zip_partner R xs ys x all there = absurd (first_of (search rules, omega arith))

pub zip_first : {X Y : Type 0} (R : X → Y → Type 0) (P : Y → Type 0) (xs : List X) (ys : List Y) → AllZip R xs ys
    → Any P ys → (x : X) × (y : Y) × Contains xs x × R x y × P y
zip_first R P (x ∷ xs) (y ∷ ys) all (zero, z, below, is, has) =
    (x, y, (zero, omega arith, refl), all.0, subst P (sym is) has)
zip_first R P (x ∷ xs) (y ∷ ys) all (suc k, z, below, is, has) =
    let (v, w, (i, under, there), related, holds) = zip_first R P xs ys all.1 (k, z, omega (arith, below), is, has) in
    (v, w, (suc i, omega (arith, under), there), related, holds)
zip_first R P xs ys all any = absurd (first_of (search rules, omega arith))

pub same_excluded : (r c : Reading) (n : List ℕ) → IsCompleted r c → IsExcludedBy n c → IsExcludedBy n r
same_excluded r c n is by = record {
  negative = sym is.mode ∙ by.negative;
  text = by.text;
  source = sym is.source
      ∙ by.source;
  excludes = by.excludes;
}

pub completed_excluded : (g c : List Reading) (n : List ℕ) → AllZip IsCompleted g c → IsExcluded c n → IsExcluded g n
completed_excluded (r ∷ g) (x ∷ c) n all by = search (rules, same_excluded r x n all.0, completed_excluded g c n all.1)
completed_excluded g c n all by = absurd (search rules)
