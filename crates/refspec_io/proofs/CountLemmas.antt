-- How many are reported, and how many more there are.
use Rattle.std.proofs.Common.{◌≡◌, ℕ, zero, suc, false, List, [], ◌∷◌, ◌++◌, ap, append_assoc, codes, decimal, refl}
use Rattle.std.proofs.Common.{sym, ◌∙◌}
use Rattle.std.proofs.lemmas.Bool.{false≢true}
use Rattle.refspec_io.specs.declared.call.Form.{Form}
use Rattle.refspec_io.specs.declared.call.Form.TheVariants as form
use Rattle.refspec_io.specs.declared.call.Limit.{Limit}
use Rattle.refspec_io.specs.Counts.{is_reported, more_line}
use Rattle.refspec_io.specs.Json.{AddsObjects}
use Rattle.refspec_io.proofs.ShownLemmas.{behind}

-- the line that says how many more there are, if not 0
pub more_line-some : (what : List ℕ) (n : ℕ) (old a b new : List ℕ) → (n ≡ 0 → ⊥) → a ≡ old ++ what → b ≡ a ++ decimal n
    → new ≡ b ++ codes " more; `--all` lists them\n" → new ≡ old ++ more_line what n
more_line-some what zero old a b new some is_a is_b is_new = absurd (some refl)
more_line-some what (suc n) old a b new some is_a is_b is_new =
    let front = behind old what a (decimal (suc n)) b is_a is_b in
    behind old (what ++ decimal (suc n)) b (codes " more; `--all` lists them\n") new front is_new
    ∙ ap (λ l. old ++ l) (append_assoc what (decimal (suc n)) (codes " more; `--all` lists them\n"))

-- one beyond the limit adds no object: in JSON none is beyond it
pub AddsObjects-beyond : {X : Type 0} (f : Form) (limit : Limit) (k : ℕ) (Reports : X → List ℕ → Type 0) (x : X)
    (old : List ℕ) → is_reported f limit k ≡ false → AddsObjects f Reports (x ∷ []) old old
AddsObjects-beyond form.Json limit k Reports x old beyond = absurd (false≢true (sym beyond))
AddsObjects-beyond form.Lines limit k Reports x old beyond = refl
AddsObjects-beyond form.Zeros limit k Reports x old beyond = refl
