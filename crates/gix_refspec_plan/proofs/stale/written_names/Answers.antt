use Rattle.gix_refspec_plan.proofs.{Common.rules, lemmas.plan.NameLemmas.zip_next}

pub loop-spec-preserved : Rattle.gix_refspec_plan.proofs.stale.written_names.Goals.loop-spec-preserved
loop-spec-preserved c = search (rules, zip_next)
