pub returns : Rattle.gix_refspec.proofs.laws.sides_agree.Goals.returns
returns c = Rattle.gix_refspec.proofs.lemmas.specs.SideLawLemmas.sides_agree _ c.args.spec.now.accepted
