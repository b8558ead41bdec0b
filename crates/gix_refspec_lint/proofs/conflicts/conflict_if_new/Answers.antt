use Rattle.gix_refspec_lint.proofs.Common.{inl, inr, arith}
use Rattle.gix_refspec_lint.proofs.lemmas.AlikeLemmas.{known_none}
use Rattle.gix_refspec_lint.proofs.conflicts.conflict_if_new.Goals as goal

pub conflict_between-requires : goal.conflict_between-requires
conflict_between-requires c = (rw c.if-may_pair.true at c.may_pair.ensures, c.requires.within, c.requires.parts)

pub returns-then-may_pair : goal.returns-then-may_pair
returns-then-may_pair c g is have none = c.conflict_between.ensures g is have

pub returns : goal.returns
returns c g is have none = λ e shown. elim (rw c.if-may_pair.false at c.may_pair.ensures) [
  | inl before ↦ omega (arith, before, shown.order)
  | inr known ↦ known_none g c.args.group.now is c.args.known.now.earlier.now c.requires.earlier
      c.args.row.now.flags.now
      c.args.row.now.first c.args.second c.requires.within known none (e, shown)
]
