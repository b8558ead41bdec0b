-- a remote for each name so far was added
use Rattle.std.proofs.Common.{◌≡◌, ◌++◌, List, map, take}
use Rattle.std.specs.String.{string_bytes}
use Rattle.refspec_request.specs.declared.remotes.OldRemote.{OldRemote}
use Rattle.refspec_git.specs.Repository.{AreFiles}
use Rattle.refspec_git.proofs.repository.add_files.Given as goal

abbrev pub invariant-loop-name : goal.invariant-loop-name
invariant-loop-name l = (more : List OldRemote)
    × AreFiles l.folder (map string_bytes (take l.name-index l.names)) more × (l.old.items ≡ l.fn.old.items ++ more)
