-- Which bytes of a refused text are wrong: this project's own rule, in the terms of git-check-ref-format(1) and of the
-- reasons to refuse a text.
use Rattle.std.specs.Prelude.{◌≡◌, ◌≢◌, ◌⊎◌, ◌≤◌, ◌<◌, ◌+◌, ℕ, List, [], ◌∷◌, ◌++◌, Option, Some, codes, length, IsTrue}
use Rattle.gix_refspec_text.specs.declared.name.Error.{Error}
use Rattle.gix_refspec_text.specs.declared.name.Error.TheVariants as fault
use Rattle.gix_refspec_text.specs.declared.parsing.Operation.{Operation}
use Rattle.gix_refspec_text.specs.declared.parsing.Side.{Side}
use Rattle.gix_refspec_text.specs.declared.parsing.Side.TheVariants.{Source, Destination}
use Rattle.gix_refspec_text.specs.declared.parsing.Span.{Span}
use Rattle.gix_refspec_text.specs.Texts.Bytes.{star}
use Rattle.gix_refspec_text.specs.Texts.Words.{Lacks, BeginsWith}
use Rattle.gix_refspec_text.specs.Texts.Name.{is_refused_byte, with_letters}
use Rattle.gix_refspec_text.specs.Specs.Reading.{Mode, Normal, Forced, Negative}
use Rattle.gix_refspec_text.specs.Specs.Refusal.{Refusal, Empty, NegativeWithDestination, PushToEmpty}
use Rattle.gix_refspec_text.specs.Specs.Refusal.{PatternUnsupported, ReferenceName, PatternUnbalanced, NegativeEmpty}
use Rattle.gix_refspec_text.specs.Specs.Refusal.{NegativeObjectHash, Never, HasBadSource, IsFirstReason}
use Rattle.gix_refspec_text.specs.Specs.Grammar.{AreParts}

-- the word w of a text, between these two texts, has the fault
abbrev pub IsWrong : Error → List ℕ → List ℕ → List ℕ → Type 0
IsWrong fault.Empty before w after = ⊥
IsWrong fault.EmptyComponent before w after = (w ≡ codes "//") ⊎ ((w ≡ codes "/") × ((before ≡ []) ⊎ (after ≡ [])))
IsWrong fault.StartsWithDot before w after = (w ≡ codes "/.") ⊎ ((w ≡ codes ".") × (before ≡ []))
IsWrong fault.LockSuffix before w after = (w ≡ codes ".lock") × ((after ≡ []) ⊎ BeginsWith (codes "/") after)
IsWrong fault.EndsWithDot before w after = (w ≡ codes ".") × (after ≡ [])
IsWrong fault.RepeatedDot before w after = w ≡ codes ".."
IsWrong fault.ReflogPortion before w after = w ≡ codes "@{"
IsWrong fault.Asterisk before w after = w ≡ codes "*"
IsWrong (fault.InvalidByte b) before w after = (w ≡ b ∷ []) × IsTrue (is_refused_byte b)

-- n bytes of x, from the index i on, are a wrong word
pub record HasWrongWord (x : List ℕ) (i n : ℕ) : Type 0 where
  pub before : List ℕ
  pub word : List ℕ
  pub after : List ℕ
  pub here : x ≡ before ++ (word ++ after)
  pub index : length before ≡ i
  pub size : length word ≡ n
  pub fault : Error
  pub wrong : IsWrong fault before word after

-- they are the first: no other wrong word begins before them, and none that begins with them is shorter
pub record IsFirstWrongWord (x : List ℕ) (i n : ℕ) : Type 0 where
  pub has : HasWrongWord x i n
  pub first : (j m : ℕ) → HasWrongWord x j m → (i < j) ⊎ ((i ≡ j) × (n ≤ m))

-- the first star of x has the index i
pub record HasFirstStar (x : List ℕ) (i : ℕ) : Type 0 where
  pub before : List ℕ
  pub after : List ℕ
  pub here : x ≡ before ++ (star ∷ after)
  pub first : Lacks star before
  pub index : i ≡ length before

-- the second star of x has the index i
pub record HasSecondStar (x : List ℕ) (i : ℕ) : Type 0 where
  pub before : List ℕ
  pub between : List ℕ
  pub after : List ℕ
  pub here : x ≡ before ++ (star ∷ (between ++ (star ∷ after)))
  pub first : Lacks star before
  pub second : Lacks star between
  pub index : i ≡ length before + 1 + length between

-- n bytes of the side x, from the index i on, are wrong by the refusal. Of an invalid name or pattern they are its
-- first wrong word; of a side with several stars, the second; of unbalanced sides, the star; and else the whole side
abbrev pub AreWrong : Refusal → List ℕ → ℕ → ℕ → Type 0
AreWrong (ReferenceName fault) x i n = IsFirstWrongWord (with_letters x) i n
AreWrong (PatternUnsupported pattern) x i n = HasSecondStar x i × (n ≡ 1)
AreWrong PatternUnbalanced x i n = HasFirstStar x i × (n ≡ 1)
AreWrong NegativeWithDestination x i n = (x ≢ []) × (i ≡ 0) × (n ≡ length x)
AreWrong NegativeObjectHash x i n = (i ≡ 0) × (n ≡ length x)
AreWrong Empty x i n = ⊥
AreWrong PushToEmpty x i n = ⊥
AreWrong NegativeEmpty x i n = ⊥

-- x is this side of a text with the source s and the destination d
abbrev pub IsSide : List ℕ → Option (List ℕ) → Side → List ℕ → Type 0
IsSide s d Source x = x ≡ s
IsSide s d Destination x = d ≡ Some x

-- the refusal concerns this side: a bad destination only behind a source that isn't bad
abbrev pub Concerns : Operation → List ℕ → Option (List ℕ) → Refusal → Side → Type 0
Concerns op s d PatternUnbalanced side = Unit {0}
Concerns op s d NegativeObjectHash side = side ≡ Source
Concerns op s d NegativeWithDestination side = side ≡ Destination
Concerns op s d e Source = HasBadSource op s d e
Concerns op s d e Destination = Never (HasBadSource op s d)

-- how many bytes the sign of the mode has
abbrev pub sign_length : Mode → ℕ
sign_length Normal = 0
sign_length Forced = 1
sign_length Negative = 1

-- the index at which a side begins, in a text with this mode and source
abbrev pub index_of_side : Mode → List ℕ → Side → ℕ
index_of_side mode s Source = sign_length mode
index_of_side mode s Destination = sign_length mode + length s + 1

-- for a refused text with these parts, n bytes of this side x, from the index i on, are wrong by the first reason
pub record AreFirstWrong (op : Operation) (mode : Mode) (s : List ℕ) (d : Option (List ℕ)) (side : Side) (x : List ℕ)
    (i n : ℕ) : Type 0 where
  pub refusal : Refusal
  pub first : IsFirstReason op mode s d refusal
  pub word : IsSide s d side x
  pub concerned : Concerns op s d refusal side
  pub wrong : AreWrong refusal x i n

-- for the operation, the bytes of the span are wrong in the text
pub record IsSpan (op : Operation) (text : List ℕ) (span : Span) : Type 0 where
  pub mode : Mode
  pub source : List ℕ
  pub destination : Option (List ℕ)
  pub parts : AreParts mode source destination text
  pub word : List ℕ
  pub index : ℕ
  pub start : span.start ≡ index_of_side mode source span.side + index
  pub wrong : AreFirstWrong op mode source destination span.side word index span.len

-- for the operation, no bytes of the text are wrong
abbrev pub HasNoSpan : Operation → List ℕ → Type 0
HasNoSpan op text = (span : Span) → ¬ (IsSpan op text span)

-- the text has no other span for the operation
abbrev pub IsOnlySpan : Operation → List ℕ → Span → Type 0
IsOnlySpan op text span = (other : Span) → IsSpan op text other → other ≡ span
