-- Which words of a text are wrong, and similar ones that aren't; stars; and where sides begin.
use Rattle.gix_refspec_text.proofs.Common.{arith, refl, ◌≡◌, inl, inr, [], codes, EmptyComponent, StartsWithDot}
use Rattle.gix_refspec_text.proofs.Common.{LockSuffix, EndsWithDot, RepeatedDot, ReflogPortion, InvalidByte, Normal}
use Rattle.gix_refspec_text.proofs.Common.{Forced, Negative}
use Rattle.gix_refspec_text.proofs.{Common.{NegativeWithDestination, dot, slash, star}, readers.Texts.Lacks-tested}
use Rattle.gix_refspec_text.specs.Specs.Span.{AreWrong, HasFirstStar, HasSecondStar, HasWrongWord, IsFirstWrongWord}
use Rattle.gix_refspec_text.specs.Specs.Span.{IsWrong, index_of_side}
use Rattle.gix_refspec_text.specs.declared.parsing.Side.TheVariants.{Source, Destination}

-- two slashes, or one that is first or last; a dot that is first, or after a slash; `.lock` at the end of a component
pub wrong_words :
    IsWrong EmptyComponent (codes "a") (codes "//") (codes "b") × IsWrong EmptyComponent [] (codes "/") (codes "a")
    × IsWrong EmptyComponent (codes "a") (codes "/") [] × IsWrong StartsWithDot [] (codes ".") (codes "a")
    × IsWrong StartsWithDot (codes "a") (codes "/.") (codes "b") × IsWrong LockSuffix (codes "a") (codes ".lock") []
    × IsWrong LockSuffix (codes "a") (codes ".lock") (codes "/b") × IsWrong EndsWithDot (codes "a") (codes ".") []
    × IsWrong RepeatedDot [] (codes "..") [] × IsWrong ReflogPortion [] (codes "@{") [] × IsWrong (InvalidByte 32) []
    (codes " ") []
wrong_words = (
  inl refl,
  inr (refl, inl refl),
  inr (refl, inr refl),
  inr (refl, refl),
  inl refl,
  (refl, inl refl),
  (refl, inr (record { after = codes "b"; here = refl })),
  (refl, refl),
  refl,
  refl,
  (refl, refl),
)

-- a slash, a dot and `.lock` within a name, and a byte that isn't refused
pub fine_words :
    ¬ (IsWrong EmptyComponent (codes "a") (codes "/") (codes "b"))
    × ¬ (IsWrong StartsWithDot (codes "a") (codes ".") (codes "b"))
    × ¬ (IsWrong EndsWithDot (codes "a") (codes ".") (codes "b")) × ¬ (IsWrong RepeatedDot [] (codes ".") [])
    × ¬ (IsWrong ReflogPortion [] (codes "@") []) × ¬ (IsWrong (InvalidByte 97) [] (codes "a") [])
    × ¬ (IsWrong (InvalidByte 32) [] (codes "a") [])
fine_words =
    (λ h. grind arith, λ h. grind arith, λ h. grind arith, λ h. cc, λ h. cc, λ h. grind arith, λ h. grind arith)

pub fine_lock : ¬ (IsWrong LockSuffix (codes "a") (codes ".lock") (codes ".b"))
fine_lock h =
    elim h.1 [
      | inl none ↦ absurd (cc)
      | inr more ↦ let here = more.here in let same : dot ≡ slash =
          cc in omega (arith, same)
    ]

-- of the two wrong words of `a..b..` only one can be the first
one_of_two : HasWrongWord (codes "a..b..") 1 2
one_of_two =
    record {
      before = codes "a";
      word = codes "..";
      after = codes "b..";
      here = refl;
      index = refl;
      size = refl;
      fault = RepeatedDot;
      wrong = refl;
    }

pub not_the_second : HasWrongWord (codes "a..b..") 4 2 × ¬ (IsFirstWrongWord (codes "a..b..") 4 2)
not_the_second = (
  record {
    before = codes "a..b";
    word = codes "..";
    after = [];
    here = refl;
    index = refl;
    size = refl;
    fault = RepeatedDot;
    wrong = refl;
  },
  λ h. let late = h.first 1 2 one_of_two in elim late [
    | inl less ↦ omega (arith, less)
    | inr same ↦
        omega (arith, same)
  ],
)

-- the first and the second star of a side
pub stars : HasFirstStar (codes "a*b*c*") 1 × HasSecondStar (codes "a*b*c*") 3
stars = (
  record {
    before = codes "a";
    after = codes "b*c*";
    here = refl;
    first = Lacks-tested star (codes "a") refl;
    index = refl;
  },
  record {
    before = codes "a";
    between = codes "b";
    after = codes "c*";
    here = refl;
    first = Lacks-tested star (codes "a") refl;
    second = Lacks-tested star (codes "b") refl;
    index = refl;
  },
)

-- a destination of a negative spec is wrong as a whole, unless it is empty
pub whole_destination : AreWrong NegativeWithDestination (codes "ab") 0 2
    × ¬ (AreWrong NegativeWithDestination (codes "ab") 1 1) × ¬ (AreWrong NegativeWithDestination [] 0 0)
whole_destination = (((λ same. cc), refl, refl), λ h. omega (arith, h.1), λ h. h.0 refl)

-- a sign and a colon come before a side
pub sides_begin : (index_of_side Normal (codes "ab") Source ≡ 0) × (index_of_side Forced (codes "ab") Source ≡ 1)
    × (index_of_side Normal (codes "ab") Destination ≡ 3) × (index_of_side Negative (codes "ab") Destination ≡ 4)
sides_begin = (refl, refl, refl, refl)
