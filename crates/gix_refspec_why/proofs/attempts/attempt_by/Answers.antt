use Rattle.gix_refspec_why.proofs.Common.{sym, subst, bstr_bytes, reading_of, mapped_of, AreCandidatesOf, HasName}
use Rattle.gix_refspec_why.proofs.Common.{HasEarlierCandidate, HasOwnFate, IsPositive, Mapped, MapsName, Misses}
use Rattle.gix_refspec_why.proofs.Common.{TakesFirstCandidate}
use Rattle.gix_refspec_why.proofs.lemmas.SourceLemmas.{earlier_misses, mapped_candidate, mapped_to}
use Rattle.gix_refspec_why.proofs.attempts.attempt_by.Goals as goal

pub returns-then-is_negative : goal.returns-then-is_negative
returns-then-is_negative c refs names has =
    subst (λ n. HasOwnFate refs (reading_of c.args.spec.now) n c.exclusion_fate.result) c.as_bytes.ensures
    (c.exclusion_fate.ensures refs)

pub source_mismatch-mismatch-requires-clause-unmapped : goal.source_mismatch-mismatch-requires-clause-unmapped
source_mismatch-mismatch-requires-clause-unmapped c =
    subst (λ n. (m : Mapped) → ¬ (MapsName n (reading_of c.args.spec.now) m)) (sym c.as_bytes-in_default.ensures)
    (rw c.in_default.is at c.in_ok-mapping.ensures.ok)

pub returns-in_default : goal.returns-in_default
returns-in_default c refs names has =
    subst (λ n. Misses refs (reading_of c.args.spec.now) n c.source_mismatch-mismatch.result)
    c.as_bytes-in_default.ensures (c.source_mismatch-mismatch.ensures refs)

pub earlier_candidate-requires : goal.earlier_candidate-requires
earlier_candidate-requires c =
    subst (λ n. AreCandidatesOf (reading_of c.args.spec.now) n) (sym c.as_bytes-2.ensures)
    (mapped_candidate (bstr_bytes c.args.name) (reading_of c.args.spec.now) (mapped_of c.in-Some.mapping)
    (rw c.in-Some.is at c.in_ok-mapping.ensures.ok))

pub returns-in-Some-2 : goal.returns-in-Some-2
returns-in-Some-2 c refs names has =
    let r = reading_of c.args.spec.now in
    let told = rw c.in-Some-2.is at
    (c.in_ok-index.ensures refs names (subst (HasName refs) (sym c.as_bytes-2.ensures) has)) in
    earlier_misses refs (bstr_bytes c.args.name) r (mapped_of c.in-Some.mapping) c.in-Some-2.index
    (λ negative. subst IsPositive negative c.if-is_negative.ensures) (rw c.in-Some.is at c.in_ok-mapping.ensures.ok)
    (subst (λ n. HasEarlierCandidate refs r n c.in-Some-2.index) c.as_bytes-2.ensures told)

pub returns : goal.returns
returns c refs names has =
    let r = reading_of c.args.spec.now in
    let told = rw c.in-None.is at
    (c.in_ok-index.ensures refs names (subst (HasName refs) (sym c.as_bytes-2.ensures) has)) in
    mapped_to refs (bstr_bytes c.args.name) r (mapped_of c.in-Some.mapping) has
    (rw c.in-Some.is at c.in_ok-mapping.ensures.ok)
    (subst (λ n. TakesFirstCandidate refs r n) c.as_bytes-2.ensures told)
