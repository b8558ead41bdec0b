-- the names so far are the texts so far
use Rattle.std.proofs.Common.{◌≡◌, map, take}
use Rattle.bstr.specs.BStr.{bstr_bytes}
use Rattle.gix_refspec_c.specs.Group.{bytes_of}
use Rattle.gix_refspec_c.proofs.planning.merges_of.Given as goal

abbrev pub invariant-loop-text : goal.invariant-loop-text
invariant-loop-text l = map bstr_bytes l.names.items ≡ map bytes_of (take l.text-index l.texts)
