-- Numbers below a bound.
use Rattle.gix_refspec_text.proofs.Common.{◌≡◌, ◌⊎◌, inl, inr, ℕ, ◌+◌, ◌<◌, arith, cases_lt}

pub upto : (k n : ℕ) → k < n + 1 → (k < n) ⊎ (k ≡ n)
upto k n under = elim (cases_lt k n) [ inl less ↦ inl less | inr above ↦ inr (omega arith) ]
