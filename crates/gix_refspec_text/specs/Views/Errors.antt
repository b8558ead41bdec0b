-- When two errors of parsing are the same.
use Rattle.std.specs.Prelude.{◌≡◌}
use Rattle.bstr.specs.Owned.{bstring_bytes}
use Rattle.gix_refspec_text.specs.declared.parsing.Error.{Error}
use Rattle.gix_refspec_text.specs.declared.parsing.Error.TheVariants.{PatternUnsupported}

-- the errors are the same variant with equal fields; sides with several stars are compared by their bytes
abbrev pub IsSameError : Error → Error → Type 0
IsSameError (PatternUnsupported a) (PatternUnsupported b) = bstring_bytes a ≡ bstring_bytes b
IsSameError a b = a ≡ b
