-- Sides as they are written. git-fetch(1) completes partial names under `<refspec>`; Git itself compares the sides of
-- configured specs without that where it looks for one ref of them.
use Rattle.std.specs.Prelude.{◌≡◌, ℕ, List, Option, None, Some}
use Rattle.gix_refspec_text.specs.Texts.Words.{Lacks}
use Rattle.gix_refspec_text.specs.Texts.Name.{IsSplit}
use Rattle.gix_refspec_text.specs.Texts.Bytes.{star}
use Rattle.gix_refspec_text.specs.Matching.Side.{Fits}

-- the side x as it is written is the name n: without a star n itself, and with the word for its star if it has one
abbrev pub IsText : List ℕ → List ℕ → Option (List ℕ) → Type 0
IsText x n None = Lacks star x × (n ≡ x)
IsText x n (Some word) = (before after : List ℕ) × IsSplit before after x × Fits before after n word
