-- The first reason that applies to parts, and that none applies to valid ones.
use Rattle.gix_refspec_text.proofs.Common.{[], arith, ◌≡◌, ◌≢◌, inl, inr, ℕ, List, Option, None, Some, unwrap_or, refl}
use Rattle.gix_refspec_text.proofs.Common.{subst, Operation, Push, Fetch, Shape, HasStar, star, Mode, Normal, Negative}
use Rattle.gix_refspec_text.proofs.Common.{Refusal, PatternUnbalanced, NegativeEmpty, NegativeObjectHash}
use Rattle.gix_refspec_text.proofs.Common.{HasNegativeDestination, HasBadSource, HasBadDestination, IsUnbalanced}
use Rattle.gix_refspec_text.proofs.Common.{IsOneStarred, Never, IsFirstReason, NoReasonBeforeSource, IsPositive}
use Rattle.gix_refspec_text.proofs.Common.{LooksLikeObjectHash, MemoryOr, HasShape, HasCheckedShape, IsBadSide}
use Rattle.gix_refspec_text.proofs.Common.{IsReason, IsBadAt, IsBadPattern}
use Rattle.gix_refspec_text.proofs.lemmas.parsing.SideLemmas.{HasStar-bad, plain_fine, pattern_fine, checked_fine}
use Rattle.gix_refspec_text.proofs.lemmas.parsing.SideLemmas.{checked_starred}
use Rattle.gix_refspec_text.proofs.lemmas.texts.TextLemmas.{Lacks-ContainsText}
use Rattle.gix_refspec_text.specs.declared.parsing.Error.{Error}
use Rattle.gix_refspec_text.specs.declared.parsing.Side.TheVariants.{Source, Destination}
use Rattle.gix_refspec_text.specs.declared.parsing.reading.Reason.{Reason}
use Rattle.gix_refspec_text.specs.declared.parsing.reading.Reason.TheVariants as reason

-- an error that is `Memory` or satisfies P may be weakened to other conditions that follow
pub MemoryOr-map : (M N : Type 0) (P Q : Refusal → Type 0) (e : Error) → (M → N) → ((f : Refusal) → P f → Q f)
    → MemoryOr M P e → MemoryOr N Q e
MemoryOr-map M N P Q e m p h = grind arith

pub no_negative : (m : Mode) (d : Option (List ℕ)) → IsPositive m → Never (HasNegativeDestination m d)
no_negative m d pos e h = grind arith

pub fetch_reaches : (m : Mode) (s : List ℕ) (d : Option (List ℕ)) → IsPositive m → NoReasonBeforeSource Fetch m s d
fetch_reaches m s d pos = grind arith

pub push_reaches : (m : Mode) (s t : List ℕ) → IsPositive m → (s ≢ [] → t ≡ [] → ⊥)
    → NoReasonBeforeSource Push m s (Some t)
push_reaches m s t pos somewhere = grind arith

pub starred_not_empty : (t : List ℕ) → HasStar t → t ≢ []
starred_not_empty t has empty = Lacks-ContainsText star [] tt (subst HasStar empty has)

pub push_alone_reaches : (m : Mode) (s : List ℕ) → IsPositive m → (s ≡ [] → m ≡ Normal → ⊥)
    → NoReasonBeforeSource Push m s None
push_alone_reaches m s pos full = grind arith

pub reason_at_source : (op : Operation) (m : Mode) (s : List ℕ) (d : Option (List ℕ)) (e : Refusal)
    → NoReasonBeforeSource op m s d → HasBadSource op s d e → IsFirstReason op m s d e
reason_at_source op m s d e before bad = inr (before.0, inr (before.1, inr (before.2, inl bad)))

pub reason_at_destination : (op : Operation) (m : Mode) (s : List ℕ) (d : Option (List ℕ)) (e : Refusal)
    → NoReasonBeforeSource op m s d → Never (HasBadSource op s d) → HasBadDestination d e → IsFirstReason op m s d e
reason_at_destination op m s d e before source bad =
    inr (before.0, inr (before.1, inr (before.2, inr (source, inl bad))))

pub reason_of_balance : (op : Operation) (m : Mode) (s : List ℕ) (d : Option (List ℕ)) (e : Refusal)
    → NoReasonBeforeSource op m s d → Never (HasBadSource op s d) → Never (HasBadDestination d)
    → IsUnbalanced op m s d e → IsFirstReason op m s d e
reason_of_balance op m s d e before source destination bad =
    inr (before.0, inr (before.1, inr (before.2, inr (source, inr (destination, inl bad)))))

-- a checked source isn't bad; for a push to a destination, it only has to lack a star or be a pattern
pub fetch_source_fine : (s : List ℕ) (d : Option (List ℕ)) (k : Shape) → HasCheckedShape s k
    → Never (HasBadSource Fetch s d)
fetch_source_fine s d k fine e bad = checked_fine s k fine e (bad.source, bad.refusal)

pub push_source_fine : (s d : List ℕ) (k : Shape) → HasShape s k → Never (HasBadSource Push s (Some d))
push_source_fine s d k fine e bad = let refusal = bad.refusal in grind (arith, plain_fine, pattern_fine)

pub alone_fine : (op : Operation) (s : List ℕ) (k : Shape) → HasCheckedShape s k → Never (HasBadSource op s None)
alone_fine op s k fine e bad = grind (arith, checked_fine)

pub destination_fine : (d : Option (List ℕ)) (k : Shape) → HasCheckedShape (unwrap_or d []) k
    → Never (HasBadDestination d)
destination_fine d k fine e bad = checked_fine bad.word k (rw bad.is at fine) e (bad.destination, bad.refusal)

pub sides_balanced : (s t : List ℕ) (k : Shape) → HasShape s k → HasShape t k → IsOneStarred s t → ⊥
sides_balanced s t k a b h = grind (arith, Lacks-ContainsText)

pub sides_unbalanced : (s t : List ℕ) (j k : Shape) → HasShape s j → HasShape t k → j ≢ k → IsOneStarred s t
sides_unbalanced s t j k a b differ = grind arith

pub unbalanced_somewhere : (s t : List ℕ) → IsOneStarred s t → (s ≢ [] → t ≡ [] → ⊥) → t ≢ []
unbalanced_somewhere s t (inl h) somewhere empty = somewhere (starred_not_empty s h.0) empty
unbalanced_somewhere s t (inr h) somewhere empty = starred_not_empty t h.1 empty

pub bad_destination : (d : Option (List ℕ)) (e : Refusal) → IsBadSide (unwrap_or d []) e → HasBadDestination d e
bad_destination d e bad = grind arith

pub reason_of_source : (op : Operation) (m : Mode) (s : List ℕ) (d : Option (List ℕ)) (P : Refusal → Type 0)
    (r : Reason)
    → NoReasonBeforeSource op m s d → ((e : Refusal) → P e → HasBadSource op s d e) → IsBadAt Source P s r
    → IsReason op m s d r
reason_of_source op m s d P (reason.Bad Source stop) before bad told = (before, (bad _ told.1.0, told.1.1))
reason_of_source op m s d P (reason.Bad Destination stop) before bad told = let same = told.0 in absurd (cc)
reason_of_source op m s d P r before bad told = absurd told

pub reason_of_destination : (op : Operation) (m : Mode) (s : List ℕ) (d : Option (List ℕ)) (r : Reason)
    → NoReasonBeforeSource op m s d → Never (HasBadSource op s d)
    → IsBadAt Destination (IsBadSide (unwrap_or d [])) (unwrap_or d []) r → IsReason op m s d r
reason_of_destination op m s d (reason.Bad Source stop) before source told = let same = told.0 in absurd (cc)
reason_of_destination op m s d (reason.Bad Destination stop) before source told =
    (before, source, (bad_destination d _ told.1.0, told.1.1))
reason_of_destination op m s d r before source told = absurd told

pub fetch_source_bad : (s : List ℕ) (d : Option (List ℕ)) (e : Refusal) → IsBadSide s e → HasBadSource Fetch s d e
fetch_source_bad s d e bad = record { source = bad.0; refusal = bad.1 }

pub push_source_bad : (s t : List ℕ) (e : Refusal) → IsBadPattern s e → HasBadSource Push s (Some t) e
push_source_bad s t e bad = record { source = starred_not_empty s (HasStar-bad s e bad); refusal = bad }

pub negative_reaches : (op : Operation) (s : List ℕ) → NoReasonBeforeSource op Negative s None
negative_reaches op s = grind arith

pub reason_against_object : (op : Operation) (s : List ℕ) (k : Shape) → s ≢ [] → HasCheckedShape s k
    → LooksLikeObjectHash s → IsFirstReason op Negative s None NegativeObjectHash
reason_against_object op s k full a hash = grind (arith, alone_fine)

pub reason_against_nothing : (op : Operation) (s : List ℕ) (k : Shape) → s ≡ [] → HasCheckedShape s k
    → IsFirstReason op Negative s None NegativeEmpty
reason_against_nothing op s k empty a = grind (arith, alone_fine)

pub bad_negative : (op : Operation) (s : List ℕ) (e : Refusal) → IsBadSide s e → HasBadSource op s None e
bad_negative op s e bad = grind arith

pub unbalanced_fetch : (m : Mode) (s : List ℕ) (d : Option (List ℕ)) (j k : Shape) → IsPositive m → HasCheckedShape s j
    → HasCheckedShape (unwrap_or d []) k → j ≢ k → IsFirstReason Fetch m s d PatternUnbalanced
unbalanced_fetch m s d j k pos source target differ =
    let t = unwrap_or d [] in
    let one = sides_unbalanced s t j k (checked_starred s j source) (checked_starred t k target) differ in
    reason_of_balance Fetch m s d PatternUnbalanced (fetch_reaches m s d pos) (fetch_source_fine s d j source)
    (destination_fine d k target)
    (record { positive = pos; one = one; has_destination = λ push. absurd (cc); refusal = refl })

pub unbalanced_push : (m : Mode) (s t : List ℕ) (j k : Shape) → IsPositive m → (s ≢ [] → t ≡ [] → ⊥) → HasShape s j
    → HasCheckedShape t k → j ≢ k → IsFirstReason Push m s (Some t) PatternUnbalanced
unbalanced_push m s t j k pos somewhere source target differ =
    let one = sides_unbalanced s t j k source (checked_starred t k target) differ in
    reason_of_balance Push m s (Some t) PatternUnbalanced (push_reaches m s t pos somewhere)
    (push_source_fine s t j source) (destination_fine (Some t) k target)
    (record {
      positive = pos;
      one = one;
      has_destination = λ _. unbalanced_somewhere s t one somewhere;
      refusal =
          refl;
    })
