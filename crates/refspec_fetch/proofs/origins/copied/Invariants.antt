-- the copies of the texts so far
use Rattle.std.proofs.Common.{◌≡◌, map, take}
use Rattle.bstr.specs.BStr.{bstr_bytes}
use Rattle.bstr.specs.Owned.{bstring_bytes}
use Rattle.refspec_fetch.proofs.origins.copied.Given as goal

abbrev pub invariant-loop-text : goal.invariant-loop-text
invariant-loop-text l = map bstring_bytes l.copies.items ≡ map bstr_bytes (take l.text-index l.texts)
