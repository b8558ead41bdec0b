-- the texts are those of the specs so far
use Rattle.std.proofs.Common.{◌≡◌, map, take}
use Rattle.refspec_io.specs.Texts.{given_of}
use Rattle.refspec_git.specs.Chosen.{spec_texts}
use Rattle.refspec_git.proofs.chosen.texts_for.Given as goal

abbrev pub invariant-loop-index : goal.invariant-loop-index
invariant-loop-index l =
    map given_of l.texts.items ≡ spec_texts l.operation (map (λ s. s.now) (take l.index l.specs))
