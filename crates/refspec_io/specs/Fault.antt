-- Why a run ends early.
use Rattle.std.specs.Prelude.{ℕ, ⊤}
use Rattle.refspec_io.specs.declared.fault.Fault.{Fault}
use Rattle.refspec_io.specs.declared.fault.Fault.TheVariants as fault

-- memory ran out
abbrev pub IsMemory : Fault → Type 0
IsMemory fault.Memory = ⊤
IsMemory _ = ⊥

-- the reader failed, or memory ran out
abbrev pub IsReadOrMemory : Fault → Type 0
IsReadOrMemory fault.Read = ⊤
IsReadOrMemory fault.Memory = ⊤
IsReadOrMemory _ = ⊥

-- memory ran out, or the format of the input is refused and P holds
abbrev pub RefusesFormat : Type 0 → Fault → Type 0
RefusesFormat P (fault.Settings why) = P
RefusesFormat P fault.Memory = ⊤
RefusesFormat P _ = ⊥

-- the exit status after a fault
abbrev pub status_of : Fault → ℕ
status_of (fault.Settings why) = 2
status_of _ = 3

-- a writer failed
abbrev pub IsWrite : Fault → Type 0
IsWrite fault.Write = ⊤
IsWrite _ = ⊥
