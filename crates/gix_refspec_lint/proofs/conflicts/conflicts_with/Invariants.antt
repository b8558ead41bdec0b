use Rattle.gix_refspec_lint.proofs.Common.{◌≡◌, List, length, map, take, Reading}
use Rattle.gix_refspec_lint.proofs.Common.{IsMadeFrom, IsExample, HaveParts, IsGroupOf, example_of}
use Rattle.gix_refspec_lint.specs.Private.Alike.{AreFlags, CanShow}

abbrev pub invariant-loop-second : Rattle.gix_refspec_lint.proofs.conflicts.conflicts_with.Given.invariant-loop-second
invariant-loop-second l = (length l.flags.items ≡ l.second) × ((g : List Reading) → IsGroupOf g l.group
    → HaveParts l.group.specs.now l.known.parts.now
    → IsMadeFrom (λ j q e. IsExample g l.first j e) 0 (take l.second g) (map example_of l.found.items)
    × AreFlags (CanShow g l.first) l.first l.flags.items)
