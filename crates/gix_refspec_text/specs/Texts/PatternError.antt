-- Why a text with one star is not a pattern: this project's own rule.
use Rattle.std.specs.Prelude.{◌<◌, ℕ, List, length}
use Rattle.gix_refspec_text.specs.declared.name.PatternError.{PatternError}
use Rattle.gix_refspec_text.specs.declared.name.PatternError.TheVariants.{Name, Memory}
use Rattle.gix_refspec_text.specs.Texts.Name.{HasFault, ReplacesStar}

-- the text has the fault with the letter for its star; or it is too long to be copied without allocating
abbrev pub IsPatternFault : PatternError → List ℕ → Type 0
IsPatternFault (Name fault) x = (y : List ℕ) × ReplacesStar x y × HasFault y fault
IsPatternFault Memory x = 256 < length x
