-- the names so far are asked for
use Rattle.std.proofs.Common.{map, take}
use Rattle.bstr.specs.BStr.{bstr_bytes}
use Rattle.bstr.specs.Owned.{bstring_bytes}
use Rattle.refspec_commands.specs.Prefixes.{AreNamed}
use Rattle.refspec_commands.proofs.prefixes.beside.named.Given as goal

abbrev pub invariant-loop-name : goal.invariant-loop-name
invariant-loop-name l = AreNamed (map bstr_bytes (take l.name-index l.names)) (map bstring_bytes l.list.items)
