pub returns-clause-same : Rattle.gix_refspec.proofs.laws.equal_specs.Goals.returns-clause-same
returns-clause-same c = Rattle.gix_refspec_text.proofs.lemmas.specs.SpecLemmas.equal_keys _ _

pub returns-clause-text : Rattle.gix_refspec.proofs.laws.equal_specs.Goals.returns-clause-text
returns-clause-text c = Rattle.gix_refspec_text.proofs.lemmas.specs.SpecLemmas.equal_readings _ _ c.args.a.now.accepted
    c.args.b.now.accepted
