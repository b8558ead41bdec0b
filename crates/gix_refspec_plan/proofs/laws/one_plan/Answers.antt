-- Each part of the plan is determined by those before it.
use Rattle.gix_refspec_plan.proofs.{Common.{map, ref_of, wish_of}, lemmas.plan.OnePlanLemmas.one_plan}

pub returns : Rattle.gix_refspec_plan.proofs.laws.one_plan.Goals.returns
returns c = one_plan (wish_of c.args.wish.now) (map ref_of c.args.items.now)
