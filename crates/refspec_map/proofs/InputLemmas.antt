-- The bytes that several reads took.
use Rattle.std.proofs.Common.{◌≡◌, ◌<◌, ℕ, Bool, true, false, MatchBool, List, ◌++◌, Option, length, take, drop, sym}
use Rattle.std.proofs.Common.{length-append, arith}
use Rattle.std.proofs.lemmas.List.{length-take}
use Rattle.std.proofs.lemmas.Bool.{false≢true}
use Rattle.refspec_map.specs.declared.fault.Fault.{Fault}
use Rattle.refspec_map.specs.declared.fault.Fault.TheVariants as fault
use Rattle.refspec_map.specs.Fault.{IsReadOrMemory}
use Rattle.refspec_map.specs.Input.{IsReadFault}

-- a failed read, or memory running out, needs no further explanation
pub explained : (x y : Option (List ℕ)) (f : Fault) → IsReadOrMemory f → IsReadFault x y f
explained x y fault.Read h = tt
explained x y fault.Memory h = tt
explained x y fault.TooLong h = absurd h
explained x y (fault.Line n) h = absurd h
explained x y (fault.Spec n e) h = absurd h
explained x y fault.Write h = absurd h

-- a buffer that was overwritten still isn't empty
pub kept_room : (n : ℕ) (new items : List ℕ) → length new ≡ n → 0 < n
    → 0 < length (take n (new ++ drop (length new) items))
kept_room n new items same room = omega (
  arith,
  length-take n (new ++ drop (length new) items),
  length-append new (drop (length new) items),
)

-- a read that returned no bytes found the end
pub ends : (P Q : Type 0) (more : Bool) → more ≡ false → MatchBool more P Q → Q
ends P Q true none h = absurd (false≢true (sym none))
ends P Q false none h = h
