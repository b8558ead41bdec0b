use Rattle.std.proofs.Common.{map}
use Rattle.refspec_request.specs.Refusals.{Writes, pieces_of_members}
use Rattle.refspec_request.proofs.refusal.write_members.Given as goal

-- the remotes so far are appended
abbrev pub invariant-loop-member : goal.invariant-loop-member
invariant-loop-member l = Writes (pieces_of_members (map (λ y. y.now) l.yielded)) l.fn.out.items l.out.items
