use Rattle.gix_refspec_match.proofs.Common.{List, ◌≡◌, ℕ, take, AllByRecursion, kind_of_side, object}

abbrev pub invariant-loop-matcher :
    Rattle.gix_refspec_match.proofs.matcher.Matchers.has_ids.Given.invariant-loop-matcher
invariant-loop-matcher l = AllByRecursion (λ m. (id : List ℕ) → ¬ (kind_of_side m.needle ≡ object id))
    (take l.matcher-index l.self.list.items)
