use Rattle.gix_refspec_why.proofs.lemmas.GroupLemmas.{first_writes}
use Rattle.gix_refspec_why.proofs.lemmas.RivalLemmas.{contesting, obstructing, uncontested, unobstructed}
use Rattle.gix_refspec_why.proofs.fates.Group.fate_at.Goals as goal

pub returns-in-Some : goal.returns-in-Some
returns-in-Some c g refs n k r is at first = (
  first,
  contesting g refs is.kept is.are_kept n c.args.destination.now c.in-Some.rival
      (c.in-Some.ensures is.kept n is.rivals),
)

pub returns-in-Some-obstructing : goal.returns-in-Some-obstructing
returns-in-Some-obstructing c g refs n k r is at first = (
  first,
  uncontested g refs is.kept is.are_kept n c.args.destination.now (c.in_default.ensures is.kept n is.rivals),
  obstructing g refs is.kept is.are_kept n c.args.destination.now c.in-Some-obstructing.rival
      (c.in-Some-obstructing.ensures is.kept n is.rivals
      (first_writes g refs n c.args.destination.now k r c.args.self.now is at first)),
)

pub returns-in-None : goal.returns-in-None
returns-in-None c g refs n k r is at first = (
  first,
  uncontested g refs is.kept is.are_kept n c.args.destination.now (c.in_default.ensures is.kept n is.rivals),
  unobstructed g refs is.kept is.are_kept n c.args.destination.now
      (c.in-None.ensures is.kept n is.rivals
      (first_writes g refs n c.args.destination.now k r c.args.self.now is at first)),
)
