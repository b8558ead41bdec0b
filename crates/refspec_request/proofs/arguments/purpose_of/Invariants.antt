-- the arguments so far are read
use Rattle.std.proofs.Common.{map, take}
use Rattle.refspec_request.specs.Reading.{HasRead}
use Rattle.refspec_request.proofs.arguments.purpose_of.Given as goal

abbrev pub invariant-loop-argument : goal.invariant-loop-argument
invariant-loop-argument l = HasRead (map (λ a. a.now) (take l.argument-index l.arguments)) l.reading
