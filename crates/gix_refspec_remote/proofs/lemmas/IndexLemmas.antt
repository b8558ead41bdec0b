-- Specs at indexes.
use Rattle.gix_refspec_remote.proofs.Common.{◌≡◌, ℕ, List, [], ◌∷◌, Some, option_map, ◌<◌, ◌≤◌, ◌+◌, zero, suc, sym, ap}
use Rattle.gix_refspec_remote.proofs.Common.{subst, ◌∙◌, inl, inr, arith, length, length-map, map, get_or, slice_get}
use Rattle.gix_refspec_remote.proofs.Common.{same_Some, slice_get-map, slice_get-get_or, slice_get_within, below_more}
use Rattle.gix_refspec_remote.proofs.Common.{Reading, RefSpecRef, reading_of, IsExcluded, IsExcludedBy, HasAt, HasNo}

-- the reading of the spec at an index
pub read_at : (cs : List RefSpecRef) (k : ℕ) (x : RefSpecRef) → k < length cs → x ≡ get_or cs k x
    → slice_get (map reading_of cs) k ≡ Some (reading_of x)
read_at cs k x below is =
    slice_get-map reading_of cs k ∙ ap (option_map reading_of) (slice_get-get_or cs k x below)
    ∙ ap (λ y. Some (reading_of y)) (sym is)

-- what no spec before an index satisfies, nor the one at it, none up to it does
pub none_more : (P : Reading → Type 0) (g : List Reading) (k : ℕ) (r : Reading) → slice_get g k ≡ Some r → ¬ (P r)
    → ((j : ℕ) → j < k → ¬ (HasAt g j P)) → (j : ℕ) → j < k + 1 → ¬ (HasAt g j P)
none_more P g k r at never before = below_more _ _ before
    (λ has. never (subst P (same_Some _ _ (sym has.1 ∙ at)) has.2))

-- what no spec before the end satisfies, none does
pub none_all : (P : Reading → Type 0) (cs : List RefSpecRef) (n : ℕ) → length cs ≤ n
    → ((j : ℕ) → j < n → ¬ (HasAt (map reading_of cs) j P)) → HasNo (map reading_of cs) P
none_all P cs n past before k has = before k
    (omega (arith, past, length-map cs reading_of, slice_get_within (map reading_of cs) k has.0 has.1)) has

-- what the spec at an index excludes, the group does
pub excluded_at : (g : List Reading) (k : ℕ) (r : Reading) (n : List ℕ) → slice_get g k ≡ Some r → IsExcludedBy n r
    → IsExcluded g n
excluded_at [] k r n is by = absurd (cc (is))
excluded_at (q ∷ g) zero r n is by = inl (subst (IsExcludedBy n) (sym (same_Some _ _ is)) by)
excluded_at (q ∷ g) (suc k) r n is by = inr (excluded_at g k r n is by)
