-- By the verdicts on mappings.
use Rattle.gix_refspec_plan.proofs.{Common.{map, ref_of, wish_of}, lemmas.plan.OpposedLemmas.conflicts_exactly}

pub returns : Rattle.gix_refspec_plan.proofs.laws.conflicts_exactly.Goals.returns
returns c = conflicts_exactly (wish_of c.args.wish.now) (map ref_of c.args.items.now)
