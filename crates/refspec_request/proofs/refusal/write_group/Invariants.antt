use Rattle.std.proofs.Common.{[], ◌++◌, codes, take}
use Rattle.refspec_request.specs.Refusals.{Writes, about, pieces_of_members}
use Rattle.refspec_request.specs.Remotes.{members_of}
use Rattle.refspec_request.proofs.refusal.write_group.Given as goal

-- the remotes of the settings so far are appended
abbrev pub invariant-loop-setting : goal.invariant-loop-setting
invariant-loop-setting l = Writes
    (about [] l.name (codes " is a group of remotes; name one of them:")
    ++ pieces_of_members (members_of l.name (take l.setting-index l.settings))) l.fn.out.items l.out.items
