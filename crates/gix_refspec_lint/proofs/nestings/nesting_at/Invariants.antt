use Rattle.gix_refspec_lint.proofs.Common.{List, map, take, AllByRecursion, Reading, start_of, IsGroupOf}
use Rattle.gix_refspec_lint.proofs.lemmas.NestFoundLemmas.{NoNesting}
use Rattle.gix_refspec_lint.proofs.nestings.nesting_at.Given as goal

abbrev pub invariant-loop-upper : goal.invariant-loop-upper
invariant-loop-upper l = (g : List Reading) → IsGroupOf g l.two.group.now
    → AllByRecursion
    (λ s. AllByRecursion (NoNesting g l.two.upper l.two.lower l.names.directory.now l.names.nested.now s)
    (map start_of l.lowers.items)) (map start_of (take l.upper-index l.upper-items))

abbrev pub invariant-loop-lower : goal.invariant-loop-lower
invariant-loop-lower l = (g : List Reading) → IsGroupOf g l.two.group.now
    → AllByRecursion (NoNesting g l.two.upper l.two.lower l.names.directory.now l.names.nested.now (start_of l.upper))
    (map start_of (take l.lower-index l.lower-items))
