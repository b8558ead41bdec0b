-- the texts are the arguments so far
use Rattle.std.proofs.Common.{◌≡◌, map, take}
use Rattle.refspec_io.specs.Texts.{given_of, numbered, argument_at}
use Rattle.refspec_io.proofs.texts.texts_of.Given as goal

abbrev pub invariant-loop-word : goal.invariant-loop-word
invariant-loop-word l = map given_of l.texts.items ≡ numbered (argument_at l.call.operation) 1
    (map (λ w. w.now) (take l.word-index l.call.specs.items))
