use Rattle.gix_refspec_lint.proofs.Common.{◌≤◌, ◌<◌, ℕ, map, reading_of, IsFree}

abbrev pub invariant-loop-byte : Rattle.gix_refspec_lint.proofs.letter.free_between.Given.invariant-loop-byte
invariant-loop-byte l = (b : ℕ) → l.from ≤ b → b < l.byte → ¬ (IsFree (map reading_of l.specs) b)
