-- Why a run ends early, and the names of the reasons for which a text is refused.
use Rattle.std.specs.Prelude.{ℕ, List, codes, ⊤}
use Rattle.gix_refspec.specs.Specs.Refusal.{Refusal, Empty, NegativeWithDestination, PushToEmpty, PatternUnsupported}
use Rattle.gix_refspec.specs.Specs.Refusal.{ReferenceName, PatternUnbalanced, NegativeEmpty, NegativeObjectHash}
use Rattle.refspec_map.specs.declared.fault.Fault.{Fault}
use Rattle.refspec_map.specs.declared.fault.Fault.TheVariants as fault

-- the name of a reason, without its data
abbrev pub name_of : Refusal → List ℕ
name_of Empty = codes "Empty"
name_of NegativeWithDestination = codes "NegativeWithDestination"
name_of PushToEmpty = codes "PushToEmpty"
name_of (PatternUnsupported pattern) = codes "PatternUnsupported"
name_of (ReferenceName fault) = codes "ReferenceName"
name_of PatternUnbalanced = codes "PatternUnbalanced"
name_of NegativeEmpty = codes "NegativeEmpty"
name_of NegativeObjectHash = codes "NegativeObjectHash"

-- the exit status of a fault: 1 if a line is at fault, otherwise 3
abbrev pub status_of : Fault → ℕ
status_of (fault.Line number) = 1
status_of (fault.Spec number error) = 1
status_of _ = 3

-- memory ran out
abbrev pub IsMemory : Fault → Type 0
IsMemory fault.Memory = ⊤
IsMemory _ = ⊥

-- a read failed, or memory ran out
abbrev pub IsReadOrMemory : Fault → Type 0
IsReadOrMemory fault.Read = ⊤
IsReadOrMemory fault.Memory = ⊤
IsReadOrMemory _ = ⊥

-- a write failed
abbrev pub IsWrite : Fault → Type 0
IsWrite fault.Write = ⊤
IsWrite _ = ⊥
