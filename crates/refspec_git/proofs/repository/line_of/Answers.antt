-- It is what stands before the newline.
use Rattle.std.proofs.Common.{[], ◌∷◌, inl}
use Rattle.std.proofs.lemmas.Bool.Decides.{Decides-eqb}
use Rattle.std.proofs.lemmas.Slice.Eq.{strip_suffix_is}
use Rattle.refspec_git.proofs.repository.line_of.Goals as goal

pub returns-in-Some : goal.returns-in-Some
returns-in-Some c = inl (rw c.in-Some.is at (strip_suffix_is Decides-eqb c.args.output.now (10 ∷ [])
    c.strip_suffix.result c.strip_suffix.ensures.cases))
