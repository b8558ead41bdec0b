-- the merged refs of the names so far
use Rattle.std.proofs.Common.{map, take}
use Rattle.std.specs.List.{AllZip}
use Rattle.bstr.specs.BStr.{bstr_bytes}
use Rattle.gix_refspec.specs.Views.Spec.{reading_of}
use Rattle.refspec_commands.specs.Upstreams.{IsAsked}
use Rattle.refspec_commands.proofs.upstreams.merged_refs.Given as goal

abbrev pub invariant-loop-name : goal.invariant-loop-name
invariant-loop-name l = AllZip (IsAsked (map reading_of l.specs)) (map bstr_bytes (take l.name-index l.names))
    l.merged.items
