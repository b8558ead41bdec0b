use Rattle.gix_refspec_lint.proofs.Common.{◌≡◌, ◌<◌, ℕ, List, Some, map, slice_get, IsPositive, Reading, reading_of}
use Rattle.gix_refspec_lint.proofs.Common.{IsAtWork, IsGroupOf}
use Rattle.gix_refspec_lint.specs.Private.Idles.{alone_at}

abbrev pub invariant-loop-at : Rattle.gix_refspec_lint.proofs.idle.covering.Given.invariant-loop-at
invariant-loop-at l =
    (g : List Reading) → IsGroupOf g l.group → (c : Reading) → slice_get
    (map reading_of l.group.specs.now) l.index ≡ Some c → IsPositive c.mode
    → (h : ℕ) → h < l.at → IsAtWork g (alone_at h) l.index
