use Rattle.gix_refspec_lint.proofs.Common.{◌≡◌, List, length, map, take, Reading, IsJoinedFrom}
use Rattle.gix_refspec_lint.proofs.Common.{IsGroupOf, example_of}
use Rattle.gix_refspec_lint.proofs.lemmas.FoundLemmas.{AreOfFirst}
use Rattle.gix_refspec_lint.specs.Private.Alike.{AreRows, CanShow}

abbrev pub invariant-loop-first : Rattle.gix_refspec_lint.proofs.conflicts.conflicts_in.Given.invariant-loop-first
invariant-loop-first l = (length l.rows.items ≡ l.first) × ((g : List Reading) → IsGroupOf g l.group
    → IsJoinedFrom (λ i r of_first. AreOfFirst g i of_first) 0 (take l.first g) (map example_of l.found.items)
    × AreRows (CanShow g) g (map (λ v. v.items) l.rows.items))
