-- Exit statuses, the input of a call, and the output of `canon`.
use Rattle.std.proofs.Common.{◌≡◌, ℕ, true, false, List, [], ◌∷◌, ◌++◌, Some, inl, codes, length, refl, ap, subst}
use Rattle.std.proofs.Common.{arith}
use Rattle.gix_refspec_text.specs.declared.parsing.Operation.TheVariants.{Fetch}
use Rattle.refspec_io.specs.declared.call.Form.TheVariants as form
use Rattle.refspec_io.specs.Shown.{AddsNames}
use Rattle.refspec_io.specs.Texts.{Given, numbered, argument_at}
use Rattle.refspec_commands.specs.Canon.{AreCanonical, ShowsCanonical}
use Rattle.refspec_commands.specs.Output.{IsInput, status_of}
use Rattle.refspec_commands.proofs.facts.CanonFacts.{canonical, not_canonical}

-- 1 if something is refused, else 0
pub statuses : (status_of true ≡ 1) × (status_of false ≡ 0)
statuses = (refl, refl)

-- the input is all that the reader has, if the call reads it, else empty
pub inputs : IsInput true (Some (codes "a\n")) (Some []) (codes "a\n")
    × IsInput false (Some (codes "a\n")) (Some (codes "a\n")) []
inputs = (record { taken = refl; ended = refl }, refl)

pub other_inputs : ¬ (IsInput true (Some (codes "a\n")) (Some []) [])
    × ¬ (IsInput true (Some (codes "a\n")) (Some (codes "\n")) (codes "a"))
    × ¬ (IsInput false (Some (codes "a\n")) (Some []) (codes "a\n"))
other_inputs = (
  (λ is. omega (arith, ap length is.taken)),
  (λ is. omega (arith, ap length is.ended)),
  λ is. omega (arith, ap length is),
)

-- canonical texts in each form: one per line, or ended by zero bytes
abbrev texts : List Given
texts = numbered (argument_at Fetch) 1 ([] ∷ codes "a b" ∷ codes "main" ∷ [])

pub shown : ShowsCanonical form.Lines texts (codes "HEAD\nmain\n")
    × ShowsCanonical form.Zeros texts ((codes "HEAD" ++ 0 ∷ []) ++ (codes "main" ++ 0 ∷ []))
shown = (
  (
    codes "HEAD" ∷ codes "main" ∷ [],
    canonical.0,
    (
      codes "HEAD\nmain\n",
      (codes "HEAD", codes "main\n", inl refl, (codes "main", [], inl refl, refl, refl), refl),
      refl,
    ),
  ),
  (codes "HEAD" ∷ codes "main" ∷ [], canonical.0, refl),
)

-- a text isn't left out
pub not_shown : ¬ (ShowsCanonical form.Zeros (argument_at Fetch 1 (codes "main") ∷ []) [])
not_shown (names, are, adds) = not_canonical.1 (subst (AreCanonical ((Fetch, codes "main") ∷ [])) (none names adds) are)
  where
    none : (names : List (List ℕ)) → AddsNames form.Zeros [] names [] [] → names ≡ []
    none [] same = refl
    none ([] ∷ names) same = absurd (omega (arith, ap length same))
    none ((b ∷ name) ∷ names) same = absurd (omega (arith, ap length same))
