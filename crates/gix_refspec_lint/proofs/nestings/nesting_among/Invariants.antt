use Rattle.gix_refspec_lint.proofs.Common.{List, ◌++◌, map, take, AllByRecursion, bstring_bytes, Reading, IsGroupOf}
use Rattle.gix_refspec_lint.specs.Private.Nestings.{NoneNested}

abbrev pub invariant-loop-name : Rattle.gix_refspec_lint.proofs.nestings.nesting_among.Given.invariant-loop-name
invariant-loop-name l = (g : List Reading) → IsGroupOf g l.two.group.now
    → AllByRecursion (λ n. NoneNested g l.two.upper l.two.lower n (n ++ l.rest))
    (map bstring_bytes (take l.name-index l.name-items))
