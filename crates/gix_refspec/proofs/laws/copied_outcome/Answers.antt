pub returns : Rattle.gix_refspec.proofs.laws.copied_outcome.Goals.returns
returns g c = Rattle.gix_refspec.proofs.lemmas.validate.OneValidationLemmas.copied_outcome c.args.outcome.now
    c.args.copy.now
