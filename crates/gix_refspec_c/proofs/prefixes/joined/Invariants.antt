-- the lines have the names so far
use Rattle.std.proofs.Common.{◌≡◌, map, take}
use Rattle.bstr.specs.Owned.{bstring_bytes}
use Rattle.gix_refspec_c.specs.Group.{lines_of}
use Rattle.gix_refspec_c.proofs.prefixes.joined.Given as goal

abbrev pub invariant-loop-name : goal.invariant-loop-name
invariant-loop-name l = l.lines.items ≡ lines_of (map bstring_bytes (take l.name-index l.names))
