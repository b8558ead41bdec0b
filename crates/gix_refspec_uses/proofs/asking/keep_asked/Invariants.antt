-- the items so far whose names begin with an entry are in the list
use Rattle.std.proofs.Common.{◌≡◌, map, take}
use Rattle.bstr.specs.Owned.{bstring_bytes}
use Rattle.gix_refspec_uses.specs.Asking.{items_asked}
use Rattle.gix_refspec_uses.proofs.asking.keep_asked.Given as goal

abbrev pub invariant-loop-item : goal.invariant-loop-item
invariant-loop-item l = l.asked.items ≡ items_asked (map bstring_bytes l.entries) (take l.item-index l.items)
