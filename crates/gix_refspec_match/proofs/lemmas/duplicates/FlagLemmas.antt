-- The flags of duplicates, as far as a list in order was gone through.
use Rattle.std.proofs.Common.{List, [], ◌∷◌, ◌≡◌, ℕ, true, false, Equal, arith, inr, ◌<◌, length, ◌+◌, ◌⊎◌, ◌↔◌, Bool}
use Rattle.std.proofs.Common.{Result, Ordering}
use Rattle.std.specs.Prelude.{IfOk}
use Rattle.std.specs.Ordering.{is_eq, is_ne}
use Rattle.gix_refspec_match.specs.Private.{Duplicates.{FlagsDuplicates, IsDuplicate}, Kept.IsFlagged}

pub some_element : {T : Type 0} (xs : List T) (k : ℕ) → k < length xs → T
some_element [] k below = absurd (omega arith)
some_element (x ∷ xs) k below = x

pub ok_weaker : {T E : Type 0} (r : Result T E) (P Q : T → Type 0) → ((x : T) → P x → Q x) → IfOk r P → IfOk r Q
ok_weaker r P Q make p = grind (arith, make, p)

pub equal_told : (o : Ordering) → (is_eq o ≡ true) ⊎ (is_ne o ≡ false) → o ≡ Equal
equal_told o told = grind (arith, told)

-- duplicates are flagged, and of these all that positions below at tell of
pub record AreFlagged {T : Type 0} (order : T → T → Ordering) (xs : List T) (Tells : ℕ → ℕ → Type 0) (flags : List Bool)
    (at : ℕ) : Type 0 where
  pub fits : (flags ≡ []) ⊎ (length flags ≡ length xs)
  pub only : (k : ℕ) → IsFlagged flags k → IsDuplicate order xs k
  pub found : (i : ℕ) → i < at → (k : ℕ) → Tells i k → IsFlagged flags k

module _ {T : Type 0} {order : T → T → Ordering} {xs : List T} {Tells : ℕ → ℕ → Type 0} {flags : List Bool} {at : ℕ}
    (are : AreFlagged order xs Tells flags at) where
  pub flags_same : ((k : ℕ) → ¬ (Tells at k)) → AreFlagged order xs Tells flags (at + 1)
  flags_same none =
      record { fits = are.fits; only = are.only; found = λ i below k told. grind (arith, are.found i, none k) }

  pub flags_raised : (new : List Bool) (i : ℕ) → length new ≡ length xs
      → ((k : ℕ) → IsFlagged new k ↔ (IsFlagged flags k ⊎ (i ≡ k))) → IsDuplicate order xs i
      → ((k : ℕ) → Tells at k → i ≡ k) → AreFlagged order xs Tells new (at + 1)
  flags_raised new i fits raised duplicate here =
      record {
        fits = inr fits;
        only = λ k now. grind (arith, raised k, are.only k, duplicate);
        found =
            λ i below k told. grind (arith, raised k, are.found i, here k);
      }

  pub flags_all : ((k : ℕ) → IsDuplicate order xs k → (i : ℕ) × (i < at) × Tells i k) → FlagsDuplicates order xs flags
  flags_all finds k = (are.only k, λ duplicate. let (i, below, told) = finds k duplicate in are.found i below k told)
