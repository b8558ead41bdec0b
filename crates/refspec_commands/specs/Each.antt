-- Results that are reported one after the other. This project's own rule.
use Rattle.std.specs.Prelude.{◌≡◌, ℕ, List, ◌++◌}
use Rattle.refspec_io.specs.Json.{AreInOrder}

-- the results grew by what Reports says of one element
abbrev pub AddsOne : {X : Type 0} → (X → List ℕ → Type 0) → X → List ℕ → List ℕ → Type 0
AddsOne Reports x old new = (line : List ℕ) × Reports x line × (new ≡ old ++ line)

-- the results grew by what Reports says of each element, in order
abbrev pub AddsEach : {X : Type 0} → (X → List ℕ → Type 0) → List X → List ℕ → List ℕ → Type 0
AddsEach Reports xs old new = (lines : List ℕ) × AreInOrder Reports xs lines × (new ≡ old ++ lines)
