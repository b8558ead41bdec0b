-- Why a plan isn't carried out.
use Rattle.std.proofs.Common.{◌≡◌, ◌⊎◌, inl, inr, suc, List, [], ◌∷◌, refl, arith}
use Rattle.std.specs.List.{AllByRecursion, Any}
use Rattle.gix_refspec_plan.specs.declared.Origin.{Origin}
use Rattle.gix_refspec_plan.specs.declared.Verdict.{Verdict}
use Rattle.gix_refspec_plan.specs.declared.Verdict.TheVariants as verdict
use Rattle.gix_refspec_plan.specs.Matching.Plan.{IsCarriedOut, Planned}

-- a verdict is that of a conflict, or not
is_conflict : (v : Verdict) → (v ≡ verdict.InConflict) ⊎ ¬ (v ≡ verdict.InConflict)
is_conflict verdict.Written = inr (λ same. cc)
is_conflict (verdict.LeftOut side) = inr (λ same. cc)
is_conflict verdict.InConflict = inl refl
is_conflict verdict.Overruled = inr (λ same. cc)
is_conflict verdict.DirectoryConflict = inr (λ same. cc)

-- some update is in conflict, or none is
some_conflict : (planned : List Planned) → Any (λ p. p.verdict ≡ verdict.InConflict) planned
    ⊎ AllByRecursion (λ p. ¬ (p.verdict ≡ verdict.InConflict)) planned
some_conflict [] = inr tt
some_conflict (p ∷ planned) = either (is_conflict p.verdict) (some_conflict planned)
  where
    either : (p.verdict ≡ verdict.InConflict) ⊎ ¬ (p.verdict ≡ verdict.InConflict)
        → Any (λ q. q.verdict ≡ verdict.InConflict) planned ⊎ AllByRecursion (λ q. ¬ (q.verdict ≡ verdict.InConflict))
        planned → Any (λ q. q.verdict ≡ verdict.InConflict) (p ∷ planned)
        ⊎ AllByRecursion (λ q. ¬ (q.verdict ≡ verdict.InConflict)) (p ∷ planned)
    either (inl is) rest = inl (0, p, omega arith, refl, is)
    either (inr isnt) (inl some) = inl (suc some.0, some.1, omega (arith, some.2), some.3, some.4)
    either (inr isnt) (inr none) = inr (isnt, none)

-- if nothing is missing and the plan isn't carried out, some update is in conflict
pub hindered_by_conflict : (planned : List Planned) (missing : List Origin) → missing ≡ []
    → ¬ (IsCarriedOut planned missing) → Any (λ p. p.verdict ≡ verdict.InConflict) planned
hindered_by_conflict planned missing none isnt = past (some_conflict planned)
  where
    past : Any (λ p. p.verdict ≡ verdict.InConflict) planned ⊎ AllByRecursion (λ p. ¬ (p.verdict ≡ verdict.InConflict))
        planned → Any (λ p. p.verdict ≡ verdict.InConflict) planned
    past (inl some) = some
    past (inr free) = absurd (isnt (record { whole = none; free = free }))
