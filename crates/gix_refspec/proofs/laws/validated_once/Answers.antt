pub returns : Rattle.gix_refspec.proofs.laws.validated_once.Goals.returns
returns c = Rattle.gix_refspec.proofs.lemmas.validate.AfterLemmas.validated_once _ _
