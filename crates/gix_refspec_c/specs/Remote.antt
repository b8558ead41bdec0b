-- What Git makes of the fetch values of a remote, as a caller receives it, in the words of gix_refspec_remote.
use Rattle.std.specs.Prelude.{◌≡◌, ◌⊎◌, ℕ, List, [], Some}
use Rattle.gix_refspec_text.specs.declared.parsing.Operation.TheVariants.{Fetch}
use Rattle.gix_refspec_text.specs.Texts.Words.{ContainsText}
use Rattle.gix_refspec.specs.Specs.Reading.{Reading}
use Rattle.gix_refspec.specs.Specs.Grammar.{Reads}
use Rattle.gix_refspec.specs.Specs.Meaning.{printed}
use Rattle.gix_refspec_remote.specs.Prefetch.{IsPrefetched}
use Rattle.gix_refspec_remote.specs.Rename.{IsRenamed, stored_below}

-- the answer is the canonical text of what a prefetch applies in place of a reading; empty if it ignores that
abbrev pub IsTextInPlaceOf : Reading → List ℕ → Type 0
IsTextInPlaceOf r answer = ((made : Reading) × IsPrefetched r made × (printed made ≡ Some answer))
    ⊎ (((made : Reading) → ¬ (IsPrefetched r made)) × (answer ≡ []))

-- the text is a fetch, and the answer is that of its reading
pub record IsInPlaceOf (text answer : List ℕ) : Type 0 where
  pub reading : Reading
  pub reads : Reads Fetch text reading
  pub is : IsTextInPlaceOf reading answer

-- the answer is the value with the new name of the remote in place of the old one; empty if the value stores nothing in
-- the folder of the old one
abbrev pub IsNewValue : List ℕ → List ℕ → List ℕ → List ℕ → Type 0
IsNewValue value old_name new_name answer = IsRenamed value old_name new_name answer
    ⊎ (¬ (ContainsText (stored_below old_name) value) × (answer ≡ []))
