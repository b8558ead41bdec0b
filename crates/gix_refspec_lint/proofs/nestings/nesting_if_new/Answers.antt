use Rattle.gix_refspec_lint.proofs.Common.{inl, inr, arith}
use Rattle.gix_refspec_lint.proofs.lemmas.AlikeLemmas.{known_unnested}
use Rattle.gix_refspec_lint.proofs.nestings.nesting_if_new.Goals as goal

pub nesting_of_two-requires-clause-within : goal.nesting_of_two-requires-clause-within
nesting_of_two-requires-clause-within c = (rw c.if-may_pair.true at c.may_pair.ensures, c.requires.within)

pub returns-then-may_pair : goal.returns-then-may_pair
returns-then-may_pair c g is have tell none = c.nesting_of_two.ensures g is have tell

pub returns : goal.returns
returns c g is have tell none = λ n shown. elim (rw c.if-may_pair.false at c.may_pair.ensures) [
  | inl before ↦ omega (arith, before, shown.before)
  | inr known ↦ known_unnested g c.args.group.now is c.args.known.now.earlier.now c.requires.earlier
      c.args.row.now.flags.now
      c.args.row.now.first c.args.second c.requires.within known none (n, shown)
]
