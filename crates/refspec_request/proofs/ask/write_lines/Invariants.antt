use Rattle.std.proofs.Common.{◌≡◌, ◌++◌, map, take}
use Rattle.refspec_request.specs.Calls.{in_lines}
use Rattle.refspec_request.proofs.ask.write_lines.Given as goal

-- the arguments so far are appended
abbrev pub invariant-loop-argument : goal.invariant-loop-argument
invariant-loop-argument l = l.out.items ≡ l.fn.out.items ++ in_lines
    (map (λ argument. argument.now) (take l.argument-index l.arguments))
