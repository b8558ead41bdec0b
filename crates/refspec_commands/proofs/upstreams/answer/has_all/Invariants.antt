-- each so far has an upstream
use Rattle.std.proofs.Common.{take}
use Rattle.std.specs.List.{All}
use Rattle.refspec_commands.specs.Upstreams.{FindsUpstream}
use Rattle.refspec_commands.proofs.upstreams.answer.has_all.Given as goal

abbrev pub invariant-loop-one : goal.invariant-loop-one
invariant-loop-one l = All FindsUpstream (take l.one-index l.found)
