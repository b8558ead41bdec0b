use Rattle.gix_refspec_lint.proofs.Common.{◌≡◌, List, length, map, take, Reading, IsJoinedFrom}
use Rattle.gix_refspec_lint.proofs.Common.{IsGroupOf}
use Rattle.gix_refspec_lint.proofs.lemmas.NestFoundLemmas.{AreNestingsOf}
use Rattle.gix_refspec_lint.specs.Views.Lint.{nesting_of}
use Rattle.gix_refspec_lint.specs.Private.Alike.{AreRows, CanShowNesting}

abbrev pub invariant-loop-first : Rattle.gix_refspec_lint.proofs.nestings.nestings_in.Given.invariant-loop-first
invariant-loop-first l = (length l.rows.items ≡ l.first) × ((g : List Reading) → IsGroupOf g l.group
    → IsJoinedFrom (λ i r of_first. AreNestingsOf g i g of_first) 0 (take l.first g) (map nesting_of l.found.items)
    × AreRows (CanShowNesting g) g (map (λ v. v.items) l.rows.items))
