-- The reasons to refuse a text, each with parts that it applies to, and similar parts that it doesn't apply to.
use Rattle.gix_refspec_text.proofs.Common.{rules, ◌≡◌, ℕ, List, [], Option, None, Some, codes, refl, sym, subst, arith}
use Rattle.gix_refspec_text.proofs.Common.{replicate, false≢true, LockSuffix, RepeatedDot, Asterisk, NoName, Operation}
use Rattle.gix_refspec_text.proofs.Common.{Push, Fetch, IsName, HasOneStar, IsSplit, IsPatternFault, letter, Normal}
use Rattle.gix_refspec_text.proofs.Common.{Forced, Negative, Refusal, NegativeWithDestination, PushToEmpty}
use Rattle.gix_refspec_text.proofs.Common.{PatternUnsupported, ReferenceName, PatternUnbalanced, NegativeEmpty}
use Rattle.gix_refspec_text.proofs.Common.{NegativeObjectHash, IsBadName, IsBadPattern, IsEmptyPush}
use Rattle.gix_refspec_text.proofs.Common.{HasNegativeDestination, PushesNowhere, IsBadSourceFor, HasBadSource}
use Rattle.gix_refspec_text.proofs.Common.{HasBadDestination, IsOneStarred, IsUnbalanced, ExcludesNothing}
use Rattle.gix_refspec_text.proofs.Common.{ExcludesObject, Never, OrElse, IsFirstReason, same_Some, Plain, Empty}
use Rattle.gix_refspec_text.specs.declared.name.PatternError.TheVariants.{Name}
use Rattle.gix_refspec_text.proofs.facts.RefusalFacts.{normal_positive}
use Rattle.gix_refspec_text.proofs.lemmas.lists.LacksLemmas.{Lacks-here}
use Rattle.gix_refspec_text.proofs.lemmas.parsing.SideLemmas.{name_not_bad}
use Rattle.gix_refspec_text.proofs.lemmas.parsing.ReasonLemmas.{reason_against_nothing, reason_against_object}
use Rattle.gix_refspec_text.proofs.lemmas.texts.LetterLemmas.{HasOneStar-count_by}
use Rattle.gix_refspec_text.proofs.facts.ManualFacts.{IsSplit-tested, full, none_some, some_none}
use Rattle.gix_refspec_text.proofs.readers.Readings.{a_hash, no_hash, bad_end, bad_for}
use Rattle.gix_refspec_text.proofs.readers.Texts.{Lacks-tested, contains, holds_not, not_one_star, not_several}
use Rattle.gix_refspec_text.proofs.readers.Texts.{pattern_fault, pattern_faultless, unstarred}

-- a text with exactly one star, and texts without one and with two
pub one_star_alone : HasOneStar (codes "a*b") × IsSplit (codes "a") (codes "b") (codes "a*b")
    × ¬ (HasOneStar (codes "ab")) × ¬ (HasOneStar (codes "a*b*")) × ¬ (HasOneStar (codes "b"))
one_star_alone = search (rules, arith, HasOneStar-count_by, IsSplit-tested, not_one_star)

pub bad_patterns :
    -- a pattern isn't refused for one star, nor for the star as a fault, nor is a text without a star a bad pattern
    IsBadPattern (codes "b*.lock") (ReferenceName LockSuffix)
    × ¬ (IsBadPattern (codes "b*.lock") (ReferenceName Asterisk))
    × ¬ (IsBadPattern (codes "b*.lock") (PatternUnsupported (codes "b*.lock")))
    × ¬ (IsBadPattern (codes "b.lock") (ReferenceName LockSuffix))
    × ¬ (IsBadPattern (codes "b*.lock") PatternUnbalanced)
    -- and the check of a pattern alone finds the same
    × IsPatternFault (Name LockSuffix) (codes "b*.lock") × ¬ (IsPatternFault (Name Asterisk) (codes "b*.lock"))
    × ¬ (IsPatternFault (Name LockSuffix) (codes "b.lock"))
    -- a bad name has a fault of its own, and a text with a star isn't a bad name
    × IsBadName (codes "a..b") (ReferenceName RepeatedDot) × ¬ (IsBadName (codes "a..b") (ReferenceName NoName))
    × ¬ (IsBadName (codes "a*..b") (ReferenceName RepeatedDot))
    × ¬ (IsBadName (codes "a..b") PatternUnbalanced)
bad_patterns = search (
  rules,
  pattern_fault,
  pattern_faultless,
  not_several (codes "b*.lock") refl,
  unstarred (codes "b.lock") (ReferenceName LockSuffix),
  Lacks-tested,
  contains,
  full,
  Lacks-here,
)

pub signs_and_colons :
    -- a push of a source, or of a colon, isn't empty
    ((e : Refusal) → ¬ (IsEmptyPush Push Normal (codes "a") None e) × ¬ (IsEmptyPush Push Normal [] (Some []) e))
    × ¬ (IsEmptyPush Push Normal [] None PushToEmpty)
    -- `^a:b` and `^a:` have a destination, and `^a` and `a:b` are fine
    × HasNegativeDestination Negative (Some (codes "b")) NegativeWithDestination × HasNegativeDestination Negative
    (Some []) NegativeWithDestination
    × ((e : Refusal) → ¬ (HasNegativeDestination Negative None e)
    × ¬ (HasNegativeDestination Normal (Some (codes "b")) e))
    × ¬ (HasNegativeDestination Negative (Some (codes "b")) PushToEmpty)
    -- a push of `a:` has an empty destination; a push of `:`, `a` or `a:b` isn't refused so, nor is a fetch of `a:`
    × PushesNowhere Push (codes "a") (Some []) PushToEmpty × ¬ (PushesNowhere Push (codes "a") (Some []) Empty)
    × ((e : Refusal) → ¬ (PushesNowhere Push [] (Some []) e) × ¬ (PushesNowhere Push (codes "a") None e)
    × ¬ (PushesNowhere Push (codes "a") (Some (codes "b")) e) × ¬ (PushesNowhere Fetch (codes "a") (Some []) e))
signs_and_colons = search (arith, false≢true, normal_positive, full, none_some, some_none, same_Some)

-- `a..b` may be pushed to a destination, but not alone, and not fetched; `a*b*` may not be pushed even to a destination
pub sources : ((e : Refusal) → ¬ (IsBadSourceFor Push (Some (codes "c")) (codes "a..b") e)) × IsBadSourceFor Push None
    (codes "a..b") (ReferenceName RepeatedDot)
    × IsBadSourceFor Fetch (Some (codes "c")) (codes "a..b") (ReferenceName RepeatedDot)
    × IsBadSourceFor Push (Some (codes "c")) (codes "a*b*") (PatternUnsupported (codes "a*b*"))
    × IsBadSourceFor Push None (codes "a*b*") (PatternUnsupported (codes "a*b*"))
sources = search (rules, unstarred, bad_for)

pub destinations :
    -- an empty side is neither a bad source nor a bad destination
    ((op : Operation) (d : Option (List ℕ)) (e : Refusal) → ¬ (HasBadSource op [] d e))
    × ((e : Refusal) → ¬ (HasBadDestination (Some []) e) × ¬ (HasBadDestination None e))
    -- `a..b`, `a*b*` and `b*.lock` are bad destinations, and `c` isn't
    × HasBadDestination (Some (codes "a..b")) (ReferenceName RepeatedDot) × HasBadDestination (Some (codes "a*b*"))
    (PatternUnsupported (codes "a*b*"))
    × HasBadDestination (Some (codes "b*.lock")) (ReferenceName LockSuffix)
    × (IsName (codes "c") → (e : Refusal) → ¬ (HasBadDestination (Some (codes "c")) e))
destinations = (
  (λ op d e bad. bad.source refl),
  (λ e. ((λ bad. bad.destination (sym (same_Some [] bad.word bad.is))), λ bad. none_some bad.word bad.is)),
  bad_end (codes "a..b") (ReferenceName RepeatedDot) refl,
  bad_end (codes "a*b*") (PatternUnsupported (codes "a*b*")) refl,
  bad_end (codes "b*.lock") (ReferenceName LockSuffix) refl,
  λ is_name e bad. name_not_bad bad.word (subst IsName (same_Some (codes "c") bad.word bad.is) is_name) e bad.refusal,
)

pub balances :
    -- one of two texts has a star, whichever it is, but not both or neither
    IsOneStarred (codes "a*") (codes "b") × IsOneStarred (codes "b") (codes "a*")
    × ¬ (IsOneStarred (codes "a*") (codes "b*")) × ¬ (IsOneStarred (codes "a") (codes "b"))
    -- a push of `a*:b` is unbalanced, and so is one of `+:b*`, but not one of `a*:`
    × IsUnbalanced Push Normal (codes "a*") (Some (codes "b")) PatternUnbalanced × IsUnbalanced Push Forced []
    (Some (codes "b*")) PatternUnbalanced
    × ((e : Refusal) → ¬ (IsUnbalanced Push Normal (codes "a*") (Some []) e))
    × ¬ (IsUnbalanced Push Normal (codes "a*") (Some (codes "b")) NegativeEmpty)
    -- a source alone with a star is unbalanced in a fetch, but not in a push, nor is a negative spec
    × IsUnbalanced Fetch Normal (codes "a*") None PatternUnbalanced
    × ((e : Refusal) → ¬ (IsUnbalanced Push Normal (codes "a*") None e)
    × ¬ (IsUnbalanced Fetch Negative (codes "a*") None e))
balances = search (arith, contains, holds_not, Lacks-tested, Lacks-here, full)

pub excludes_nothing :
    -- `^` is refused for excluding nothing; the empty text and `^a` aren't
    ExcludesNothing Negative [] NegativeEmpty
    × ((e : Refusal) → ¬ (ExcludesNothing Normal [] e) × ¬ (ExcludesNothing Negative (codes "a") e))
    × ¬ (ExcludesNothing Negative [] NegativeObjectHash)
    -- `^` and 40 digits exclude an object, and the digits alone and `^` and 39 don't
    × ExcludesObject Negative (replicate 40 letter) NegativeObjectHash
    × ((e : Refusal) → ¬ (ExcludesObject Normal (replicate 40 letter) e)
    × ¬ (ExcludesObject Negative (replicate 39 letter) e))
    × ¬ (ExcludesObject Negative (replicate 40 letter) NegativeEmpty)
excludes_nothing = search (arith, full, normal_positive, a_hash (replicate 40 letter) refl, no_hash)

-- the second reason is returned only if the first never applies
pub or_else : OrElse (ExcludesNothing Negative []) (ExcludesObject Negative []) NegativeEmpty
    × OrElse (ExcludesNothing Negative (replicate 40 letter)) (ExcludesObject Negative (replicate 40 letter))
    NegativeObjectHash × ¬ (OrElse (λ e. e ≡ NegativeEmpty) (λ e. e ≡ PushToEmpty) PushToEmpty)
    × ¬ (Never (λ e. e ≡ PushToEmpty))
or_else = search (arith, excludes_nothing, full)

-- the last reasons follow all others
pub last_reasons : IsFirstReason Fetch Negative [] None NegativeEmpty
    × (IsName (replicate 40 letter) → IsFirstReason Push Negative (replicate 40 letter) None NegativeObjectHash)
last_reasons = (
  reason_against_nothing Fetch [] Plain refl tt,
  λ is_name. reason_against_object Push
      (replicate 40 letter) Plain (full _ _) is_name (a_hash (replicate 40 letter) refl),
)
