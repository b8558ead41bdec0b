-- the texts are those of the specs so far
use Rattle.std.proofs.Common.{◌≡◌, map, take}
use Rattle.refspec_io.specs.Texts.{given_of}
use Rattle.refspec_git.specs.Fetch.{given_texts}
use Rattle.refspec_git.proofs.specs.given_texts.Given as goal

abbrev pub invariant-loop-index : goal.invariant-loop-index
invariant-loop-index l =
    map given_of l.texts.items ≡ given_texts (map (λ t. t.bytes.items) (take l.index l.given))
