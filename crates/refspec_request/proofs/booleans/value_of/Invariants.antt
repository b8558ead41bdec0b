use Rattle.std.proofs.Common.{◌≡◌, ◌≤◌, ◌↔◌, drop}
use Rattle.std.specs.Str.Parse.{AllDigits, digits_value, digits_value_after}
use Rattle.refspec_request.proofs.booleans.value_of.Given as goal

-- only digits so far, which write the value
abbrev pub invariant-loop-byte : goal.invariant-loop-byte
invariant-loop-byte l =
    (AllDigits l.base l.digits ↔ AllDigits l.base (drop l.byte-index l.digits))
    × (digits_value l.base l.digits ≡ digits_value_after l.base l.value (drop l.byte-index l.digits))
    × (l.value ≤ 2147483647)
