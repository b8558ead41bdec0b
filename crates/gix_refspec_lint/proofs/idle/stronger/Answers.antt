use Rattle.gix_refspec_lint.proofs.{Common.{inl, inr}, lemmas.{IdleLemmas.duplicate_any, IdleSpecLemmas.explains_if}}
use Rattle.gix_refspec_lint.proofs.idle.stronger.Goals as goal

pub returns-in-Invalid-clause-explains : goal.returns-in-Invalid-clause-explains
returns-in-Invalid-clause-explains c g o k s either =
    elim either [
      | inl one ↦ explains_if g o k s c.args.other
          (λ refs d m. absurd (rw c.in-Invalid.is at one refs d m))
      | inr other ↦ other
    ]

pub returns-in-Duplicate-other-clause-explains : goal.returns-in-Duplicate-other-clause-explains
returns-in-Duplicate-other-clause-explains c g o k s either =
    elim either [ inl one ↦ rw c.in-Duplicate-other.is (duplicate_any g o k s c.args.one 0 one) | inr other ↦ other ]

pub returns-in-Invalid-other-clause-explains : goal.returns-in-Invalid-other-clause-explains
returns-in-Invalid-other-clause-explains c g o k s either =
    elim either [
      | inl one ↦ one
      | inr other ↦ explains_if g o k s c.args.one
          (λ refs d m. absurd (rw c.in-Invalid-other.is at other refs d m))
    ]

pub returns-in-Duplicate-clause-explains : goal.returns-in-Duplicate-clause-explains
returns-in-Duplicate-clause-explains c g o k s either =
    elim either [ inl one ↦ one | inr other ↦ rw c.in-Duplicate.is (duplicate_any g o k s c.args.other 0 other) ]
