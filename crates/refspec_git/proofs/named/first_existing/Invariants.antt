-- no ref has one of the names so far
use Rattle.std.proofs.Common.{◌≡◌, drop, map}
use Rattle.bstr.specs.Owned.{bstring_bytes}
use Rattle.refspec_git.specs.Named.{first_in}
use Rattle.refspec_git.proofs.named.first_existing.Given as goal

abbrev pub invariant-loop-name : goal.invariant-loop-name
invariant-loop-name l = first_in l.existing (map bstring_bytes l.names)
    ≡ first_in l.existing (map bstring_bytes (drop l.name-index l.names))
