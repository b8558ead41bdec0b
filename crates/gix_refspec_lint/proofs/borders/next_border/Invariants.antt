use Rattle.gix_refspec_lint.proofs.Common.{ℕ, ◌+◌, ◌<◌, IsBorderAt}
use Rattle.gix_refspec_lint.proofs.borders.next_border.Given as goal

-- with the next byte the first bytes have no border longer by more than that byte
abbrev pub invariant-loop-border : goal.invariant-loop-border
invariant-loop-border l = record {
  border : IsBorderAt l.text l.len l.border;
  above : (c : ℕ) → l.border + 1 < c
      → ¬ (IsBorderAt l.text (l.len + 1) c);
}

abbrev pub decreases-loop-border : goal.decreases-loop-border
decreases-loop-border l = l.border
