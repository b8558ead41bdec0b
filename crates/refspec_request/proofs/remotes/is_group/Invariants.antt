use Rattle.std.proofs.Common.{◌≡◌, ◌⊎◌, ◌<◌, length, take}
use Rattle.refspec_request.specs.Remotes.{members_of}
use Rattle.refspec_request.proofs.remotes.is_group.Given as goal

-- so many remotes of the group so far, or several
abbrev pub invariant-loop-setting : goal.invariant-loop-setting
invariant-loop-setting l = (l.count ≡ length (members_of l.name (take l.setting-index l.settings)))
    ⊎ ((1 < l.count) × (1 < length (members_of l.name (take l.setting-index l.settings))))
