-- The folder of branches is stripped, if it is there.
use Rattle.std.proofs.Common.{None, Some, codes, inl, inr, refl}
use Rattle.std.proofs.lemmas.Bool.Decides.{Decides-eqb}
use Rattle.std.proofs.lemmas.Slice.Eq.{strip_prefix_is}
use Rattle.refspec_git.proofs.branches.below_heads.Goals as goal

pub returns-in-None : goal.returns-in-None
returns-in-None c = inr (
  strip_prefix_is Decides-eqb c.args.name.now (codes "refs/heads/") None c.in-None.ensures.cases,
  refl,
)

pub returns-in-Some : goal.returns-in-Some
returns-in-Some c = inl
    (strip_prefix_is Decides-eqb c.args.name.now (codes "refs/heads/") (Some c.in-Some.branch) c.in-Some.ensures.cases)
