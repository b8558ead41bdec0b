use Rattle.std.proofs.Common.{◌≡◌, drop}
use Rattle.refspec_request.specs.Remotes.{folder_of}
use Rattle.refspec_request.proofs.choice.Repository.old_remote.Given as goal

-- no file so far has the name
abbrev pub invariant-loop-old : goal.invariant-loop-old
invariant-loop-old l = folder_of l.name l.files ≡ folder_of l.name (drop l.old-index l.files)
