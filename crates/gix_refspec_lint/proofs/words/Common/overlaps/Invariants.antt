use Rattle.gix_refspec_lint.proofs.Common.{◌<◌, ◌≤◌, ℕ, get_or, AllByRecursion, Contains, IsOverlap}

abbrev pub invariant-loop-length : Rattle.gix_refspec_lint.proofs.words.Common.overlaps.Given.invariant-loop-length
invariant-loop-length l =
    record {
      each : AllByRecursion (IsOverlap l.self.prefix.now l.self.suffix.now) l.shared.items;
      all : (j : ℕ) → j < l.length-index → get_or l.length-items j 0 ≤ l.self.most
          → Contains l.shared.items (get_or l.length-items j 0);
    }
