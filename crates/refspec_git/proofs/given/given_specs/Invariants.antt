-- the specs of the arguments so far, but for a `tag` that a name follows
use Rattle.std.proofs.Common.{map, take}
use Rattle.refspec_git.proofs.GivenLemmas.{AreSpecsSoFar}
use Rattle.refspec_git.proofs.given.given_specs.Given as goal

abbrev pub invariant-loop-argument : goal.invariant-loop-argument
invariant-loop-argument l =
    AreSpecsSoFar l.is_tag (map (λ a. a.now) (take l.argument-index l.arguments))
    (map (λ t. t.bytes.items) l.specs.items)
