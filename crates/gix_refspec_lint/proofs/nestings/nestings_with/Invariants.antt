use Rattle.gix_refspec_lint.proofs.Common.{◌≡◌, List, length, map, take, Reading}
use Rattle.gix_refspec_lint.proofs.Common.{HaveParts, IsGroupOf}
use Rattle.gix_refspec_lint.proofs.lemmas.NestFoundLemmas.{AreNestingsOf}
use Rattle.gix_refspec_lint.specs.Views.Lint.{nesting_of}
use Rattle.gix_refspec_lint.specs.Private.Alike.{AreFlags, CanShowNesting}
use Rattle.gix_refspec_lint.specs.Private.Nestings.{TellWork}

abbrev pub invariant-loop-second : Rattle.gix_refspec_lint.proofs.nestings.nestings_with.Given.invariant-loop-second
invariant-loop-second l = (length l.flags.items ≡ l.second) × ((g : List Reading) → IsGroupOf g l.group
    → HaveParts l.group.specs.now l.known.parts.now → TellWork g l.known.works.now
    → AreNestingsOf g l.first (take l.second g) (map nesting_of l.found.items)
    × AreFlags (CanShowNesting g l.first) l.first l.flags.items)
