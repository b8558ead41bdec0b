-- What is written of each list of mappings has its own destinations, and the first list wins.
use Rattle.gix_refspec_plan.proofs.{Common.{map, ref_of, wish_of}, lemmas.plan.OpposedLemmas.writes_once}

pub returns : Rattle.gix_refspec_plan.proofs.laws.writes_once.Goals.returns
returns c = writes_once (wish_of c.args.wish.now) (map ref_of c.args.items.now)
