-- the name begins with none of the entries so far
use Rattle.std.proofs.Common.{◌≡◌, false, map, take}
use Rattle.bstr.specs.Owned.{bstring_bytes}
use Rattle.gix_refspec.specs.Laws.Items.{is_begun}
use Rattle.gix_refspec_uses.proofs.asking.begins_with_one.Given as goal

abbrev pub invariant-loop-entry : goal.invariant-loop-entry
invariant-loop-entry l = is_begun (map bstring_bytes (take l.entry-index l.entries)) l.name ≡ false
