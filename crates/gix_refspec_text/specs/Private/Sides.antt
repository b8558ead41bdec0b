-- How the parts of a text are checked, and the sides of the spec with these parts. Only private functions cite this.
use Rattle.std.specs.Prelude.{◌≡◌, ◌≢◌, ◌⊎◌, ℕ, List, [], ◌∷◌, Option, None, Some, option_map, unwrap_or}
use Rattle.gix_refspec_text.specs.declared.parsing.reading.Look.{Look}
use Rattle.gix_refspec_text.specs.declared.parsing.reading.Shape.{Shape}
use Rattle.gix_refspec_text.specs.declared.parsing.reading.Parts.{Parts}
use Rattle.gix_refspec_text.specs.declared.parsing.reading.Reason.{Reason}
use Rattle.gix_refspec_text.specs.declared.name.Stop.{Stop}
use Rattle.gix_refspec_text.specs.declared.name.Stop.TheVariants.{SecondStar, Fault}
use Rattle.gix_refspec_text.specs.Private.Scan.{Stops}
use Rattle.gix_refspec_text.specs.declared.parsing.reading.Sides.{Sides}
use Rattle.gix_refspec_text.specs.declared.parsing.Operation.{Operation}
use Rattle.gix_refspec_text.specs.declared.parsing.Side.{Side}
use Rattle.gix_refspec_text.specs.declared.parsing.Side.TheVariants as side
use Rattle.gix_refspec_text.specs.declared.parsing.Error.{Error}
use Rattle.gix_refspec_text.specs.Texts.Words.{Lacks}
use Rattle.gix_refspec_text.specs.Texts.Name.{IsName, HasFault, IsPattern}
use Rattle.gix_refspec_text.specs.Texts.Bytes.{star, head}
use Rattle.gix_refspec_text.specs.Specs.Reading.{Mode, Reading}
use Rattle.gix_refspec_text.specs.Specs.Refusal.{Refusal, Empty, NegativeWithDestination, PushToEmpty}
use Rattle.gix_refspec_text.specs.Specs.Refusal.{PatternUnsupported, ReferenceName, PatternUnbalanced, NegativeEmpty}
use Rattle.gix_refspec_text.specs.Specs.Refusal.{NegativeObjectHash, Never, IsBadName, IsBadPattern, HasBadSource}
use Rattle.gix_refspec_text.specs.Specs.Refusal.{HasBadDestination, NoReasonBeforeSource, IsFirstReason, IsRefused}
use Rattle.gix_refspec_text.specs.Specs.Refusal.{ReachesMemory, MayNeedMemory}
use Rattle.gix_refspec_text.specs.Specs.Grammar.{named_by, AreParts, IsPositive, Reads}
use Rattle.gix_refspec_text.specs.Views.Instruction.{mode_of, ShowsRefusal}
use Rattle.gix_refspec_text.specs.declared.parsing.reading.Look.TheVariants as look
use Rattle.gix_refspec_text.specs.declared.parsing.reading.Shape.TheVariants as shape
use Rattle.gix_refspec_text.specs.declared.parsing.Error.TheVariants as error
use Rattle.gix_refspec_text.specs.declared.parsing.reading.Reason.TheVariants as reason
use Rattle.bstr.specs.BStr.{bstr_bytes}

-- the error is `Memory`, and the condition memory holds; or the error is a refusal that satisfies P
abbrev pub MemoryOr : Type 0 → (Refusal → Type 0) → Error → Type 0
MemoryOr memory P error.Memory = memory
MemoryOr memory P e = ShowsRefusal P e

-- x is a name, or a pattern, or has this fault and no star
abbrev pub IsLook : List ℕ → Look → Type 0
IsLook x look.Name = IsName x
IsLook x look.Pattern = IsPattern x
IsLook x (look.Other fault index) = Lacks star x × HasFault x fault × Stops x (Fault fault index)

-- the refusal of a side x whose check stopped there
abbrev pub refusal_at : List ℕ → Stop → Refusal
refusal_at x SecondStar = PatternUnsupported x
refusal_at x (Fault fault index) = ReferenceName fault

-- the check of x stops there, and the refusal of x satisfies P
abbrev pub IsStopBy : (Refusal → Type 0) → List ℕ → Stop → Type 0
IsStopBy P x stop = P (refusal_at x stop) × Stops x stop

-- the reason is that this side is bad: the check of its word x stops, and the refusal of x satisfies P
abbrev pub IsBadAt : Side → (Refusal → Type 0) → List ℕ → Reason → Type 0
IsBadAt side P x (reason.Bad other stop) = (other ≡ side) × IsStopBy P x stop
IsBadAt side P x _ = ⊥

-- x has no star, or is a pattern
abbrev pub HasShape : List ℕ → Shape → Type 0
HasShape x shape.Plain = Lacks star x
HasShape x shape.Pattern = IsPattern x

-- x is empty, a name or a pattern
abbrev pub HasCheckedShape : List ℕ → Shape → Type 0
HasCheckedShape [] shape.Plain = Unit {0}
HasCheckedShape (b ∷ bs) shape.Plain = IsName (b ∷ bs)
HasCheckedShape x shape.Pattern = IsPattern x

-- x isn't empty, and is neither a name nor a pattern, for this reason
abbrev pub IsBadSide : List ℕ → Refusal → Type 0
IsBadSide x e = (x ≢ []) × (IsBadName x e ⊎ IsBadPattern x e)

-- an empty word is a missing side
abbrev pub side_of : List ℕ → Option (List ℕ)
side_of [] = None
side_of (b ∷ bs) = Some (b ∷ bs)

-- the empty source of a fetch names `HEAD`
abbrev pub named_or_head : List ℕ → List ℕ
named_or_head [] = head
named_or_head (b ∷ bs) = named_by (b ∷ bs)

-- the destination of parts, if there is one
abbrev pub destination_of : Parts → Option (List ℕ)
destination_of p = option_map (λ d. d.now) p.destination

-- the text has these parts
abbrev pub HasParts : List ℕ → Parts → Type 0
HasParts text p = AreParts (mode_of p.mode) p.source.now (destination_of p) text

-- the parts of a positive spec for the operation
pub record ArePositive (op : Operation) (p : Parts) : Type 0 where
  pub operation : p.operation ≡ op
  pub positive : IsPositive (mode_of p.mode)

-- the reading with these sides, and with the operation and the mode of the parts
abbrev pub read_as : Parts → Sides → Reading
read_as p sides = record {
  operation = p.operation;
  mode = mode_of p.mode;
  source = option_map bstr_bytes sides.source;
  destination = option_map bstr_bytes sides.destination;
}

-- each text with these parts has the reading with these sides
abbrev pub AreSidesOf : Parts → Sides → Type 0
AreSidesOf p sides = (text : List ℕ) → HasParts text p → Reads p.operation text (read_as p sides)

-- the reason is the first to refuse the parts
abbrev pub IsReason : Operation → Mode → List ℕ → Option (List ℕ) → Reason → Type 0
IsReason op mode s d reason.Empty = IsFirstReason op mode s d Empty
IsReason op mode s d reason.NegativeWithDestination = IsFirstReason op mode s d NegativeWithDestination
IsReason op mode s d reason.PushToEmpty = IsFirstReason op mode s d PushToEmpty
IsReason op mode s d (reason.Bad side.Source stop) =
    NoReasonBeforeSource op mode s d × IsStopBy (HasBadSource op s d) s stop
IsReason op mode s d (reason.Bad side.Destination stop) =
    NoReasonBeforeSource op mode s d × Never (HasBadSource op s d) × IsStopBy (HasBadDestination d)
    (unwrap_or d []) stop
IsReason op mode s d reason.PatternUnbalanced = IsFirstReason op mode s d PatternUnbalanced
IsReason op mode s d reason.NegativeEmpty = IsFirstReason op mode s d NegativeEmpty
IsReason op mode s d reason.NegativeObjectHash = IsFirstReason op mode s d NegativeObjectHash

-- the same, for the parts p
abbrev pub IsReasonAgainst : Parts → Reason → Type 0
IsReasonAgainst p = IsReason p.operation (mode_of p.mode) p.source.now (destination_of p)

-- the error is the first reason to refuse the parts p, or `Memory` if a side of them may need memory
abbrev pub IsErrorAgainst : Parts → Error → Type 0
IsErrorAgainst p =
    MemoryOr (ReachesMemory p.operation (mode_of p.mode) p.source.now (destination_of p))
    (IsFirstReason p.operation (mode_of p.mode) p.source.now (destination_of p))

-- the error is the first reason to refuse the text, or `Memory` if a side of it may need memory
abbrev pub IsErrorOf : Operation → List ℕ → Error → Type 0
IsErrorOf op text = MemoryOr (MayNeedMemory op text) (IsRefused op text)
