-- how each ref so far is written
use Rattle.std.proofs.Common.{map, take}
use Rattle.std.specs.List.{AllZip}
use Rattle.gix_refspec.specs.Views.Group.{ref_of}
use Rattle.refspec_commands.specs.Answer.{IsLooked}
use Rattle.refspec_commands.proofs.tracking.answer.looked_up.Given as goal

abbrev pub invariant-loop-item : goal.invariant-loop-item
invariant-loop-item l = AllZip (IsLooked l.remotes) (map ref_of (take l.item-index l.refs)) l.looked.items
