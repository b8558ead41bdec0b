-- The specs that are asked for are those whose sources have to be there, and some more.
use Rattle.gix_refspec_plan.proofs.{Common.{map, ref_of, wish_of}, lemmas.plan.CarriedLemmas.carried_out_exactly}

pub returns : Rattle.gix_refspec_plan.proofs.laws.carried_out_exactly.Goals.returns
returns c = carried_out_exactly (wish_of c.args.wish.now) (map ref_of c.args.items.now)
