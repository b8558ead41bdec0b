use Rattle.gix_refspec_lint.proofs.Common.{◌≡◌, List, length, map, take, Reading}
use Rattle.gix_refspec_lint.proofs.Common.{reading_of, IsMadeFrom, IsGroupOf, unused_of}
use Rattle.gix_refspec_lint.proofs.lemmas.IdleSpecLemmas.{IsIdleAt}
use Rattle.gix_refspec_lint.specs.Private.Alike.{AreReasons}

abbrev pub invariant-loop-spec_index : Rattle.gix_refspec_lint.proofs.idle.idle_in.Given.invariant-loop-spec_index
invariant-loop-spec_index l = (length l.reasons.items ≡ l.spec_index) × ((g : List Reading) → IsGroupOf g l.group
    → IsMadeFrom (IsIdleAt g) 0 (map reading_of (take l.spec_index l.group.specs.now)) (map unused_of l.idle.items)
    × AreReasons g (map reading_of l.group.specs.now) l.reasons.items)
