-- the texts of the specs so far
use Rattle.std.proofs.Common.{◌≡◌, map, take}
use Rattle.refspec_io.specs.Texts.{given_of}
use Rattle.refspec_git.specs.Wanted.{refmap_text}
use Rattle.refspec_git.proofs.specs.refmap_texts.Given as goal

abbrev pub invariant-loop-spec : goal.invariant-loop-spec
invariant-loop-spec l = map given_of l.texts.items ≡ map refmap_text (map (λ r. r.now) (take l.spec-index l.refmap))
