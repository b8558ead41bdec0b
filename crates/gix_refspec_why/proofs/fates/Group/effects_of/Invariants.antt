use Rattle.gix_refspec_why.proofs.Common.{ℕ, List, map, take, Reading, Ref, AreAttempts, HaveFatesIn, IsGroupOf}
use Rattle.gix_refspec_why.proofs.Common.{effect_of}

abbrev pub invariant-loop-index : Rattle.gix_refspec_why.proofs.fates.Group.effects_of.Given.invariant-loop-index
invariant-loop-index l = (g : List Reading) (refs : List Ref) (n : List ℕ) → IsGroupOf g refs n l.self
    → AreAttempts g refs n l.attempts → HaveFatesIn g refs n (take l.index g) (map effect_of l.effects.items)
