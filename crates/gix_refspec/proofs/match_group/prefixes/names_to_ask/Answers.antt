use Rattle.gix_refspec.proofs.{Common.{reading_of}, lemmas.prefixes.AskedLemmas.{list_of_side}}
use Rattle.std.proofs.lemmas.Result.{IfOk-weaker}

pub returns-clause-ok : Rattle.gix_refspec.proofs.match_group.prefixes.names_to_ask.Goals.returns-clause-ok
returns-clause-ok c = IfOk-weaker c.list_of.result _ _
    (λ asked is. list_of_side (reading_of c.args.spec.now) c.in-Some.side.now asked c.in-Some.ensures.0 is)
    c.list_of.ensures.ok
