-- How one pass over the bytes finds a fault of a name. Only private functions cite this. A text is scanned with a
-- slash before it, so that each of its components follows a slash.
use Rattle.std.specs.Prelude.{◌≡◌, ◌≢◌, Bool, ◌⊎◌, ◌≤◌, ◌<◌, ◌-◌, [], ◌∷◌, ◌++◌, length, take, ℕ, ◌==◌, List, Option}
use Rattle.std.specs.Prelude.{MatchOption, codes, IsTrue, if◌then◌else◌, slice_index}
use Rattle.std.specs.List.{count_by}
use Rattle.std.specs.Int.{w64, trailing_zeros}
use Rattle.gix_refspec_text.specs.declared.name.class.Class.{Class}
use Rattle.gix_refspec_text.specs.declared.name.class.Class.TheVariants.{Plain, Slash, Dot, Brace, Star, Refused}
use Rattle.gix_refspec_text.specs.declared.name.Error.{Error}
use Rattle.gix_refspec_text.specs.declared.name.Stop.{Stop}
use Rattle.gix_refspec_text.specs.declared.name.Stop.TheVariants.{SecondStar, Fault}
use Rattle.gix_refspec_text.specs.declared.name.Error.TheVariants.{Empty, EmptyComponent, StartsWithDot, LockSuffix}
use Rattle.gix_refspec_text.specs.declared.name.Error.TheVariants.{EndsWithDot, RepeatedDot, ReflogPortion, Asterisk}
use Rattle.gix_refspec_text.specs.declared.name.Error.TheVariants.{InvalidByte}
use Rattle.gix_refspec_text.specs.Texts.Bytes.{slash, star, dot, brace}
use Rattle.gix_refspec_text.specs.Texts.Name.{is_refused_byte, HasFault, HasSeveralStars, with_letters}
use Rattle.gix_refspec_text.specs.Texts.Words.{EndsWith}

-- the class of the byte b
abbrev pub class_at : ℕ → Class
class_at b = if b == slash then Slash else if b == dot then Dot else if b == brace then Brace else if b == star then
    Star else if is_refused_byte b then Refused else Plain

-- the byte b, appended to y, adds the fault e
abbrev pub AddsFault : List ℕ → ℕ → Error → Type 0
AddsFault y b Empty = ⊥
AddsFault y b EmptyComponent = (b ≡ slash) × EndsWith (codes "/") y
AddsFault y b StartsWithDot = (b ≡ dot) × EndsWith (codes "/") y
AddsFault y b LockSuffix = (b ≡ slash) × EndsWith (codes ".lock") y
AddsFault y b EndsWithDot = ⊥
AddsFault y b RepeatedDot = (b ≡ dot) × EndsWith (codes ".") y
AddsFault y b ReflogPortion = (b ≡ brace) × EndsWith (codes "@") y
AddsFault y b Asterisk = b ≡ star
AddsFault y b (InvalidByte c) = (b ≡ c) × IsTrue (is_refused_byte c)

-- some byte of y adds the fault e to the bytes before it
pub record Added (y : List ℕ) (e : Error) : Type 0 where
  pub before : List ℕ
  pub byte : ℕ
  pub after : List ℕ
  pub here : y ≡ before ++ (byte ∷ after)
  pub fault : AddsFault before byte e

-- no byte of y adds a fault to the bytes before it
abbrev pub IsClean : List ℕ → Type 0
IsClean y = (e : Error) → ¬ (Added y e)

-- y has the fault e if nothing follows it
abbrev pub LeavesFault : List ℕ → Error → Type 0
LeavesFault y Empty = ⊥
LeavesFault y EmptyComponent = EndsWith (codes "/") y
LeavesFault y StartsWithDot = ⊥
LeavesFault y LockSuffix = EndsWith (codes ".lock") y
LeavesFault y EndsWithDot = EndsWith (codes ".") y
LeavesFault y RepeatedDot = ⊥
LeavesFault y ReflogPortion = ⊥
LeavesFault y Asterisk = ⊥
LeavesFault y (InvalidByte c) = ⊥

-- the answer is a fault that satisfies F, or `None` if no fault does
abbrev pub Finds : Option Error → (Error → Type 0) → Type 0
Finds answer F = MatchOption answer ((e : Error) → ¬ (F e)) F

-- x has n stars
abbrev pub IsStarCount : List ℕ → ℕ → Type 0
IsStarCount x n = count_by (λ b. b == star) x ≡ n

-- 1 for true, 0 for false
abbrev pub one_if : Bool → ℕ
one_if some = if some then 1 else 0

-- with letters for the stars, no byte of x before the index i adds a fault; starred says whether these bytes have one
-- star or none
abbrev pub IsScanned : List ℕ → ℕ → Bool → Type 0
IsScanned x i starred = IsClean (with_letters (slash ∷ take i x)) × IsStarCount (take i x) (one_if starred)

-- with letters for the stars of x, the byte at the index i is the first that adds a fault, and adds e; or no byte adds
-- one, x ends at i, and its end has the fault e
pub record IsFoundAt (x : List ℕ) (e : Error) (i : ℕ) : Type 0 where
  pub clean : IsClean (with_letters (slash ∷ take i x))
  pub here : ((i < length x) × (slice_index x i ≢ star) × AddsFault (slash ∷ take i x) (slice_index x i) e)
      ⊎ ((i ≡ length x) × LeavesFault (slash ∷ x) e)

-- x has a second star, or has this fault with letters for its stars, and at this index unless x is empty
abbrev pub Stops : List ℕ → Stop → Type 0
Stops x SecondStar = HasSeveralStars x
Stops x (Fault e i) = HasFault (with_letters x) e × (x ≢ [] → IsFoundAt x e i)

-- after the byte p, the byte b is calm: it is plain, or it is a slash and p is neither a slash nor `k`, the last byte
-- of `.lock`
abbrev pub IsCalm : ℕ → ℕ → Type 0
IsCalm p b = (class_at b ≡ Plain) ⊎ ((b ≡ slash) × (p ≢ slash) × (p ≢ 107))

-- each byte of x from the index a up to b is calm after the byte before it
abbrev pub AreCalm : List ℕ → ℕ → ℕ → Type 0
AreCalm x a b = (k : ℕ) → a ≤ k → k < b → IsCalm (slice_index x (k - 1)) (slice_index x k)

-- the index of the lowest set bit of the mask, or n if none is set
abbrev pub lowest_of : ℕ → ℕ → ℕ
lowest_of n mask = if mask == 0 then n else trailing_zeros w64 mask
