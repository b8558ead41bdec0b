use Rattle.std.proofs.Common.{take}
use Rattle.refspec_request.specs.Remotes.{IsInFile}
use Rattle.refspec_request.proofs.remotes.is_in_file.Given as goal

-- no file so far has the name
abbrev pub invariant-loop-file : goal.invariant-loop-file
invariant-loop-file l = ¬ (IsInFile (take l.file-index l.files) l.name)
