-- The order of refusals: texts with two reasons, of which the first in the order is returned, and the other isn't.
use Rattle.gix_refspec_text.proofs.Common.{rules, ◌≢◌, ℕ, List, [], Option, None, Some, codes, arith, LockSuffix}
use Rattle.gix_refspec_text.proofs.Common.{Operation, Push, Fetch, Normal, IsFirstReason, Mode, Empty, Forced, Negative}
use Rattle.gix_refspec_text.proofs.Common.{Refusal, NegativeWithDestination, PushToEmpty, PatternUnsupported}
use Rattle.gix_refspec_text.proofs.Common.{ReferenceName, PatternUnbalanced, IsEmptyPush, IsSameReason}
use Rattle.gix_refspec_text.proofs.facts.ManualFacts.{full}
use Rattle.gix_refspec_text.proofs.lemmas.parsing.RefusalLemmas.{Agree-first}
use Rattle.gix_refspec_text.proofs.readers.Readings.{at_destination, at_source}
use Rattle.gix_refspec_text.proofs.readers.Texts.{differ}

pub normal_positive : Normal ≢ Negative
normal_positive same = cc

-- a push of the empty text is empty; a push of `+` isn't, nor is a fetch of the empty text
pub empty_push : IsFirstReason Push Normal [] None Empty × ((e : Refusal) → ¬ (IsEmptyPush Push Forced [] None e))
    × ((e : Refusal) → ¬ (IsEmptyPush Fetch Normal [] None e))
empty_push = search (arith)

-- no other reason is the first
other_reason : (op : Operation) (m : Mode) (s : List ℕ) (d : Option (List ℕ)) (e f : Refusal) → IsFirstReason op m s d e
    → ¬ (IsSameReason e f) → ¬ (IsFirstReason op m s d f)
other_reason op m s d e f first differ second = differ (Agree-first op m s d e f first second)

pub first_reasons :
    -- push `^a:`
    IsFirstReason Push Negative (codes "a") (Some []) NegativeWithDestination
    × ¬ (IsFirstReason Push Negative (codes "a") (Some []) PushToEmpty)
    -- push `a*b*:`
    × IsFirstReason Push Normal (codes "a*b*") (Some []) PushToEmpty
    × ¬ (IsFirstReason Push Normal (codes "a*b*") (Some []) (PatternUnsupported (codes "a*b*")))
first_reasons = search (arith, other_reason, full, normal_positive)

-- fetch `a*b*:c*d*`
pub source_before_destination : IsFirstReason Fetch Normal (codes "a*b*") (Some (codes "c*d*"))
    (PatternUnsupported (codes "a*b*"))
    × ¬ (IsFirstReason Fetch Normal (codes "a*b*") (Some (codes "c*d*")) (PatternUnsupported (codes "c*d*")))
source_before_destination = (
  search (rules, at_source),
  other_reason _ _ _ _ (PatternUnsupported (codes "a*b*")) _
      (search (rules, at_source)) (search (rules, arith, differ)),
)

-- fetch `a:b*.lock`
pub not_unbalanced : IsFirstReason Fetch Normal (codes "a") (Some (codes "b*.lock")) (ReferenceName LockSuffix)
    × ¬ (IsFirstReason Fetch Normal (codes "a") (Some (codes "b*.lock")) PatternUnbalanced)
not_unbalanced = (
  search (rules, at_destination),
  other_reason _ _ _ _ (ReferenceName LockSuffix) _ (search (rules, at_destination))
      (search arith),
)
