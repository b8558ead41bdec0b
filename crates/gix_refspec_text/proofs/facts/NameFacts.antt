-- Texts that are names and patterns, and texts that are not, by git-check-ref-format(1): for each of its
-- rules a text that breaks it, and one that just doesn't.
use Rattle.gix_refspec_text.proofs.Common.{ReplacesStar, HasSeveralStars, HasStar, rules, map, ◌≡◌, [], ◌∷◌, codes}
use Rattle.gix_refspec_text.proofs.Common.{refl, arith, AllByRecursion, Error, EmptyComponent, StartsWithDot}
use Rattle.gix_refspec_text.proofs.Common.{LockSuffix, ArePartsAt, slash, IsName, IsPattern, IsPatternFault}
use Rattle.gix_refspec_text.proofs.Common.{ReferenceName, with_letters, IsStarCount, IsCalm, lowest_of}
use Rattle.gix_refspec_text.specs.declared.name.PatternError.TheVariants.{Name}
use Rattle.gix_refspec_text.proofs.lemmas.lists.LacksLemmas.{Lacks-here}
use Rattle.gix_refspec_text.proofs.lemmas.parsing.SideLemmas.{pattern_fine}
use Rattle.gix_refspec_text.proofs.lemmas.texts.TestedLemmas.{IsName-tested}
use Rattle.gix_refspec_text.proofs.readers.Texts.{replaced, several, contains, holds_not, Lacks-tested, a_pattern}
use Rattle.gix_refspec_text.proofs.readers.Texts.{no_name, no_pattern, pattern_fault, unfit}
use lib.Count.{count_trailing_zeros}

pub names_close_to_faults : AllByRecursion IsName
    -- a dot in a component, or at the end of one that isn't the last; `.lock` before the end of a component; `@` and a
    -- brace apart; and the
    -- bytes just below and above the refused ones
    (codes "v1.0" ∷ codes "a.b.c" ∷ codes "a./b" ∷ codes "a.lockx" ∷ codes "a.lock.b/c" ∷ codes "a@b{c}" ∷ codes "{@a"
    ∷ codes "!}" ∷ (128 ∷ 228 ∷ 255 ∷ [])
    -- full names, names of one component, and `@`
    ∷ codes "refs/heads/main" ∷ codes "refs/heads/dev-a" ∷ codes "refs/remotes/origin/a" ∷ codes "main" ∷ codes "HEAD"
    ∷ codes "seen" ∷ codes "@" ∷ codes "-" ∷ codes "b" ∷ [])
names_close_to_faults = search (rules, IsName-tested)

-- a text with a fault isn't a name: the empty text, an empty component, one that begins with a dot or ends with
-- `.lock`, a dot at the end, two dots, `@{`, a star, and a refused byte
pub no_names : ¬ (IsName []) × ¬ (IsName (codes "/a")) × ¬ (IsName (codes "a/")) × ¬ (IsName (codes "a//a"))
    × ¬ (IsName (codes ".b/a")) × ¬ (IsName (codes "a/.b")) × ¬ (IsName (codes "b.lock/a"))
    × ¬ (IsName (codes "a/b.lock")) × ¬ (IsName (codes "a/b.")) × ¬ (IsName (codes "..a")) × ¬ (IsName (codes "@{1}"))
    × ¬ (IsName (codes "*a")) × ¬ (IsName (codes "a b"))
no_names = search (rules, no_name)

-- a star at the end, alone, as a component, within a component, and first
pub patterns :
    AllByRecursion IsPattern (codes "refs/heads/dev-*" ∷ codes "*" ∷ codes "refs/*/head" ∷ codes "foo/bar*/baz"
    ∷ codes "*/x" ∷ codes "refs/heads/*" ∷ codes "a*" ∷ [])
patterns = search (rules, a_pattern)

pub no_patterns :
    -- with the letter for the star these aren't names: a component begins with a dot, the text ends with a slash, and a
    -- component ends with `.lock`
    IsPatternFault (Name StartsWithDot) (codes "a/.*") × IsPatternFault (Name EmptyComponent) (codes "*/")
    × IsPatternFault (Name LockSuffix) (codes "a/*.lock")
    -- so they aren't patterns, nor is a text without a star, or with two
    × ¬ (IsPattern (codes "a/.*")) × ¬ (IsPattern (codes "*/")) × ¬ (IsPattern (codes "a/*.lock"))
    × ¬ (IsPattern (codes "refs/heads/main")) × ¬ (IsPattern []) × ¬ (IsPattern (codes "foo/bar*/baz*"))
    -- a pattern has no fault
    × ((e : Error) → ¬ (IsPatternFault (Name e) (codes "*")))
no_patterns = search (
  rules,
  pattern_fault,
  unfit,
  no_pattern,
  λ (e : Error). pattern_fine (codes "*")
      (a_pattern (codes "*") refl) (ReferenceName e),
)

pub scans :
    -- each star becomes a letter, and other bytes stay
    (with_letters (codes "b*c*") ≡ codes "baca") × (with_letters (codes "b+c") ≡ codes "b+c")
    -- one star may be in a component of a pattern, but not two
    × ReplacesStar (codes "foo/bar*/baz") (codes "foo/bara/baz") × ReplacesStar (codes "foo/bar*baz")
    (codes "foo/barabaz") × ReplacesStar (codes "b*.lock") (codes "ba.lock")
    × HasSeveralStars (codes "foo/bar*/baz*")
    -- a star anywhere, and none; only stars are counted, and each of them
    × HasStar (codes "a*b") × ¬ (HasStar (codes "a+b"))
    × IsStarCount (codes "b*c*") 2 × IsStarCount (codes "b+c") 0 × ¬ (IsStarCount (codes "*b") 2)
    × ¬ (IsStarCount (codes "**") 1)
    -- a letter after a slash is calm, and a slash after a letter; but no slash after a slash or a `k`, and no dot
    × IsCalm 47 97 × IsCalm 97 47 × ¬ (IsCalm 47 47) × ¬ (IsCalm 107 47) × ¬ (IsCalm 97 46)
    -- no part contains a slash; the empty text has no parts, or one empty part
    × ArePartsAt slash (codes "a" ∷ [] ∷ codes "b" ∷ []) (codes "a//b")
    × ¬ (ArePartsAt slash (codes "a/b" ∷ []) (codes "a/b"))
    × ArePartsAt slash [] [] × ArePartsAt slash ([] ∷ []) []
    -- the lowest set bit, and a mask without one
    × (map (lowest_of 16) (8 ∷ 12 ∷ 1 ∷ 0 ∷ []) ≡ 3 ∷ 2 ∷ 0 ∷ 16 ∷ [])
unfolding count_trailing_zeros
scans = search (rules, arith, Lacks-here, Lacks-tested, replaced, several, contains, holds_not)
