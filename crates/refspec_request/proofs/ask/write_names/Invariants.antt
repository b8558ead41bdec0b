use Rattle.std.proofs.Common.{◌≡◌, ◌++◌, map, take}
use Rattle.refspec_request.specs.Calls.{in_lines}
use Rattle.refspec_request.proofs.ask.write_names.Given as goal

-- the names so far are appended
abbrev pub invariant-loop-name : goal.invariant-loop-name
invariant-loop-name l = l.out.items ≡ l.fn.out.items ++ in_lines (map (λ name. name.items) (take l.name-index l.names))
