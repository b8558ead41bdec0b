use Rattle.gix_refspec_lint.proofs.Common.{◌≡◌, List, length, map, take}
use Rattle.gix_refspec_lint.proofs.Common.{bstr_bytes, Reading, reading_of, IsMadeFrom, IsGroupOf}
use Rattle.gix_refspec_lint.proofs.lemmas.LeftOutLemmas.{IsIdleOne}
use Rattle.gix_refspec_lint.proofs.lemmas.AlikeLemmas.{EachTells}

abbrev pub invariant-loop-index :
    Rattle.gix_refspec_lint.proofs.exclusions.idle_exclusions_in.Given.invariant-loop-index
invariant-loop-index l = (length l.flags.items ≡ l.index) × ((g : List Reading) → IsGroupOf g l.group
    → IsMadeFrom (IsIdleOne g (map bstr_bytes l.merges)) 0 (map reading_of (take l.index l.group.specs.now))
    l.idle.items
    × EachTells g (map bstr_bytes l.merges) (map reading_of l.group.specs.now) l.flags.items)
