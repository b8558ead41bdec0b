use Rattle.gix_refspec_lint.proofs.{Common.{List, Reading, IsGroupOf}, lemmas.NestFoundLemmas.HoldsBefore}
use Rattle.gix_refspec_lint.specs.Private.Nestings.{NoneNested}

abbrev pub invariant-loop-index : Rattle.gix_refspec_lint.proofs.nestings.nesting_above.Given.invariant-loop-index
invariant-loop-index l = (g : List Reading) → IsGroupOf g l.two.group.now
    → HoldsBefore (λ d a. NoneNested g l.two.upper l.two.lower d l.nested) l.nested l.index
