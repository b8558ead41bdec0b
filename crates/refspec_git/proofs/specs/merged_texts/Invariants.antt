-- the texts are those of the merged refs so far
use Rattle.std.proofs.Common.{map, take}
use Rattle.refspec_io.specs.Texts.{given_of}
use Rattle.refspec_git.specs.Asked.{AreMergedTexts}
use Rattle.refspec_git.proofs.specs.merged_texts.Given as goal

abbrev pub invariant-loop-merge : goal.invariant-loop-merge
invariant-loop-merge l =
    AreMergedTexts (map (λ m. m.now) (take l.merge-index l.merges)) (map given_of l.texts.items)
