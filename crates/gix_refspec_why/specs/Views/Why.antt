-- What a spec does with a ref as plain data, for contracts.
use Rattle.std.specs.Prelude.{option_map}
use Rattle.bstr.specs.Owned.{bstring_bytes}
use Rattle.gix_refspec_why.specs.declared.Effect.{Effect as DeclaredEffect}
use Rattle.gix_refspec_why.specs.Matching.Why.{Effect}

-- the effect of a spec
abbrev pub effect_of : DeclaredEffect → Effect
effect_of e = record { destination = option_map bstring_bytes e.destination; fate = e.fate }
