-- The specs of a call of `git refspec` as texts, each with where it is written.
use Rattle.std.specs.Prelude.{ℕ, List}
use Rattle.gix_refspec_text.specs.declared.parsing.Operation.{Operation}
use Rattle.refspec_io.specs.declared.settings.Setting.{Setting}
use Rattle.refspec_io.specs.Texts.{Given, at_setting}

-- a spec as the value of a setting
abbrev pub value_at : Setting → Operation → List ℕ → Given
value_at s op bytes = record { spot = at_setting s.origin.now s.key.now; operation = op; bytes = bytes }
