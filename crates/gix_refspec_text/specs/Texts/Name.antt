-- Ref names, by git-check-ref-format(1) with `--allow-onelevel`, and patterns, by git-fetch(1): texts with one star
-- that are ref names with a letter in its place. Unlike in the manual, `@` is a ref name.
use Rattle.std.specs.Prelude.{◌≡◌, ◌≢◌, ℕ, Bool, ◌||◌, ◌==◌, nat_lt, List, [], ◌∷◌, ◌++◌, codes, map, if◌then◌else◌}
use Rattle.std.specs.Prelude.{IsTrue}
use Rattle.std.specs.List.{list_any}
use Rattle.gix_refspec_text.specs.declared.name.Error.{Error}
use Rattle.gix_refspec_text.specs.declared.name.Error.TheVariants.{Empty, EmptyComponent, StartsWithDot, LockSuffix}
use Rattle.gix_refspec_text.specs.declared.name.Error.TheVariants.{EndsWithDot, RepeatedDot, ReflogPortion, Asterisk}
use Rattle.gix_refspec_text.specs.declared.name.Error.TheVariants.{InvalidByte}
use Rattle.gix_refspec_text.specs.Texts.Bytes.{slash, star, letter}
use Rattle.gix_refspec_text.specs.Texts.Words.{Lacks, ContainsText, BeginsWith, EndsWith, ArePartsAt}

-- a control character, a space, or one of the six others listed here
abbrev pub is_refused_byte : ℕ → Bool
is_refused_byte b = nat_lt b 32 || b == 127 || list_any (λ c. b == c) (codes " ~^:?[\\")

-- some component of x, a word between its slashes, satisfies P
pub record SomeComponent (P : List ℕ → Type 0) (x : List ℕ) : Type 0 where
  pub before : List (List ℕ)
  pub component : List ℕ
  pub after : List (List ℕ)
  pub components : ArePartsAt slash (before ++ (component ∷ after)) x
  pub fact : P component

-- x contains a star
abbrev pub HasStar : List ℕ → Type 0
HasStar x = ContainsText (codes "*") x

-- x has the fault e
abbrev pub HasFault : List ℕ → Error → Type 0
HasFault x Empty = x ≡ []
HasFault x EmptyComponent = (x ≢ []) × SomeComponent (λ w. w ≡ []) x
HasFault x StartsWithDot = SomeComponent (BeginsWith (codes ".")) x
HasFault x LockSuffix = SomeComponent (EndsWith (codes ".lock")) x
HasFault x EndsWithDot = EndsWith (codes ".") x
HasFault x RepeatedDot = ContainsText (codes "..") x
HasFault x ReflogPortion = ContainsText (codes "@{") x
HasFault x Asterisk = HasStar x
HasFault x (InvalidByte b) = ContainsText (b ∷ []) x × IsTrue (is_refused_byte b)

-- x is a valid ref name, called a name here: it has no fault
abbrev pub IsName : List ℕ → Type 0
IsName x = (e : Error) → ¬ (HasFault x e)

-- x has two stars or more
pub record HasSeveralStars (x : List ℕ) : Type 0 where
  pub before : List ℕ
  pub between : List ℕ
  pub after : List ℕ
  pub here : x ≡ before ++ (star ∷ (between ++ (star ∷ after)))

-- x has one star, between these two texts
pub record IsSplit (before after x : List ℕ) : Type 0 where
  pub starred : x ≡ before ++ (star ∷ after)
  pub first : Lacks star before
  pub last : Lacks star after

-- x has exactly one star
abbrev pub HasOneStar : List ℕ → Type 0
HasOneStar x = (before : List ℕ) × (after : List ℕ) × IsSplit before after x

-- x has one star, and y is x with the letter in its place
pub record ReplacesStar (x y : List ℕ) : Type 0 where
  pub before : List ℕ
  pub after : List ℕ
  pub split : IsSplit before after x
  pub replaced : y ≡ before ++ (letter ∷ after)

-- the letter for a star, and any other byte as it is
abbrev pub letter_for : ℕ → ℕ
letter_for b = if b == star then letter else b

-- x with the letter in place of each star
abbrev pub with_letters : List ℕ → List ℕ
with_letters x = map letter_for x

-- x is a pattern: it has one star, and with the letter in its place it is a name. So a pattern never ends
-- with a slash
pub record IsPattern (x : List ℕ) : Type 0 where
  pub with_letter : List ℕ
  pub replaces : ReplacesStar x with_letter
  pub name : IsName with_letter
