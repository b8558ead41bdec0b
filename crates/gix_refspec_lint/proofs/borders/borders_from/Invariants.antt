use Rattle.gix_refspec_lint.proofs.Common.{ℕ, ◌<◌, length, AllByRecursion, Contains, IsBorder, IsBorderAt}
use Rattle.gix_refspec_lint.proofs.borders.borders_from.Given as goal

-- the borders longer than len are listed, and len is the next, or 0
abbrev pub invariant-loop-len : goal.invariant-loop-len
invariant-loop-len l =
    record {
      border : IsBorderAt l.text (length l.text) l.len;
      each : AllByRecursion (IsBorder l.text) l.lengths.items;
      all : (k : ℕ) → l.len < k → IsBorderAt l.text (length l.text) k → Contains l.lengths.items k;
    }

abbrev pub decreases-loop-len : goal.decreases-loop-len
decreases-loop-len l = l.len
