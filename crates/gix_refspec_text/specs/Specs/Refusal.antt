-- Which texts are refused, and for which reason: the first in the order that this project fixes.
use Rattle.std.specs.Prelude.{◌≡◌, ◌≢◌, ◌⊎◌, ◌<◌, ℕ, List, [], Option, None, Some, IsSome, unwrap_or, length}
use Rattle.gix_refspec_text.specs.declared.name.Error.{Error}
use Rattle.gix_refspec_text.specs.declared.parsing.Operation.{Operation}
use Rattle.gix_refspec_text.specs.declared.parsing.Operation.TheVariants.{Push, Fetch}
use Rattle.gix_refspec_text.specs.Texts.Words.{Lacks}
use Rattle.gix_refspec_text.specs.Texts.Name.{HasFault, HasStar, HasSeveralStars, ReplacesStar}
use Rattle.gix_refspec_text.specs.Texts.Bytes.{star}
use Rattle.gix_refspec_text.specs.Specs.Reading.{Mode, Normal, Negative, Reading}
use Rattle.gix_refspec_text.specs.Specs.Grammar.{IsPositive, LooksLikeObjectHash, AreParts, Reads}

-- a refusal of the grammar
pub data Refusal : Type 0 where
  Empty : Refusal
  NegativeWithDestination : Refusal
  PushToEmpty : Refusal
  PatternUnsupported : List ℕ → Refusal
  ReferenceName : Error → Refusal
  PatternUnbalanced : Refusal
  NegativeEmpty : Refusal
  NegativeObjectHash : Refusal

-- x has a star but isn't a pattern, for this reason
abbrev pub IsBadPattern : List ℕ → Refusal → Type 0
IsBadPattern x (PatternUnsupported pattern) = HasSeveralStars x × (pattern ≡ x)
IsBadPattern x (ReferenceName fault) = (y : List ℕ) × ReplacesStar x y × HasFault y fault
IsBadPattern x _ = ⊥

-- x has no star but isn't a name, for this reason
abbrev pub IsBadName : List ℕ → Refusal → Type 0
IsBadName x (ReferenceName fault) = Lacks star x × HasFault x fault
IsBadName x _ = ⊥

-- the reasons, each by the parts of a text: its mode, its source and, if there is a colon, its destination

-- a push of an empty text
pub record IsEmptyPush (op : Operation) (mode : Mode) (s : List ℕ) (d : Option (List ℕ)) (e : Refusal) : Type 0 where
  pub push : op ≡ Push
  pub unsigned : mode ≡ Normal
  pub no_source : s ≡ []
  pub no_colon : d ≡ None
  pub refusal : e ≡ Empty

-- `^s:d`
pub record HasNegativeDestination (mode : Mode) (d : Option (List ℕ)) (e : Refusal) : Type 0 where
  pub negative : mode ≡ Negative
  pub colon : IsSome d
  pub refusal : e ≡ NegativeWithDestination

-- a push of `s:`
pub record PushesNowhere (op : Operation) (s : List ℕ) (d : Option (List ℕ)) (e : Refusal) : Type 0 where
  pub push : op ≡ Push
  pub source : s ≢ []
  pub nowhere : d ≡ Some []
  pub refusal : e ≡ PushToEmpty

-- s is a bad source, for this reason. It must be a name or a pattern; in a push to a destination it need not be a name
abbrev pub IsBadSourceFor : Operation → Option (List ℕ) → List ℕ → Refusal → Type 0
IsBadSourceFor Push (Some d) s e = IsBadPattern s e
IsBadSourceFor Push None s e = IsBadName s e ⊎ IsBadPattern s e
IsBadSourceFor Fetch d s e = IsBadName s e ⊎ IsBadPattern s e

-- a bad source that is present, as `a..b` in a fetch
pub record HasBadSource (op : Operation) (s : List ℕ) (d : Option (List ℕ)) (e : Refusal) : Type 0 where
  pub source : s ≢ []
  pub refusal : IsBadSourceFor op d s e

-- a destination that is neither a name nor a pattern, as in `a:b..c`
pub record HasBadDestination (d : Option (List ℕ)) (e : Refusal) : Type 0 where
  pub word : List ℕ
  pub is : d ≡ Some word
  pub destination : word ≢ []
  pub refusal : IsBadName word e ⊎ IsBadPattern word e

-- exactly one of two texts has a star
abbrev pub IsOneStarred : List ℕ → List ℕ → Type 0
IsOneStarred x y = (HasStar x × Lacks star y) ⊎ (Lacks star x × HasStar y)

-- exactly one side has a star, and a missing side has none. A push without a destination is never unbalanced: its
-- source is its destination too
pub record IsUnbalanced (op : Operation) (mode : Mode) (s : List ℕ) (d : Option (List ℕ)) (e : Refusal) : Type 0 where
  pub positive : IsPositive mode
  pub one : IsOneStarred s (unwrap_or d [])
  pub has_destination : op ≡ Push → unwrap_or d [] ≢ []
  pub refusal : e ≡ PatternUnbalanced

-- `^` and nothing more
pub record ExcludesNothing (mode : Mode) (s : List ℕ) (e : Refusal) : Type 0 where
  pub negative : mode ≡ Negative
  pub no_source : s ≡ []
  pub refusal : e ≡ NegativeEmpty

-- `^` and 40 hex digits or more
pub record ExcludesObject (mode : Mode) (s : List ℕ) (e : Refusal) : Type 0 where
  pub negative : mode ≡ Negative
  pub hash : LooksLikeObjectHash s
  pub refusal : e ≡ NegativeObjectHash

-- no refusal satisfies P
abbrev pub Never : (Refusal → Type 0) → Type 0
Never P = (e : Refusal) → ¬ (P e)

-- e satisfies P; or no refusal satisfies P, and e satisfies Q
abbrev pub OrElse : (Refusal → Type 0) → (Refusal → Type 0) → Refusal → Type 0
OrElse P Q e = P e ⊎ (Never P × Q e)

-- the first reason that applies
abbrev pub IsFirstReason : Operation → Mode → List ℕ → Option (List ℕ) → Refusal → Type 0
IsFirstReason op mode s d =
    OrElse (IsEmptyPush op mode s d)
    (OrElse (HasNegativeDestination mode d)
    (OrElse (PushesNowhere op s d)
    (OrElse (HasBadSource op s d)
    (OrElse (HasBadDestination d)
    (OrElse (IsUnbalanced op mode s d)
    (OrElse (ExcludesNothing mode s)
    (ExcludesObject mode s)))))))

-- for the operation, the text has no reading, and e is the first reason
pub record IsRefused (op : Operation) (text : List ℕ) (e : Refusal) : Type 0 where
  pub unread : (r : Reading) → ¬ (Reads op text r)
  pub mode : Mode
  pub source : List ℕ
  pub destination : Option (List ℕ)
  pub parts : AreParts mode source destination text
  pub first : IsFirstReason op mode source destination e

-- a side with several stars, which is reported whole, or one with a star and more than 256 bytes
abbrev pub NeedsMemory : List ℕ → Type 0
NeedsMemory x = HasSeveralStars x ⊎ (HasStar x × (256 < length x))

-- no reason that comes before those of the source applies
abbrev pub NoReasonBeforeSource : Operation → Mode → List ℕ → Option (List ℕ) → Type 0
NoReasonBeforeSource op mode s d = Never (IsEmptyPush op mode s d) × Never (HasNegativeDestination mode d)
    × Never (PushesNowhere op s d)

-- the source may need memory and no reason before those of the source applies; or the destination may, and also no
-- reason of the source applies
abbrev pub ReachesMemory : Operation → Mode → List ℕ → Option (List ℕ) → Type 0
ReachesMemory op mode s None = NoReasonBeforeSource op mode s None × NeedsMemory s
ReachesMemory op mode s (Some d) = NoReasonBeforeSource op mode s (Some d)
    × (NeedsMemory s ⊎ (Never (HasBadSource op s (Some d)) × NeedsMemory d))

-- for the operation, the text has a side that may need memory before any reason applies
pub record MayNeedMemory (op : Operation) (text : List ℕ) : Type 0 where
  pub mode : Mode
  pub source : List ℕ
  pub destination : Option (List ℕ)
  pub parts : AreParts mode source destination text
  pub reaches : ReachesMemory op mode source destination
