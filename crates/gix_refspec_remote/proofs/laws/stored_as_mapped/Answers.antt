use Rattle.gix_refspec_remote.proofs.lemmas.LawLemmas.{stored_mapped}

pub returns : Rattle.gix_refspec_remote.proofs.laws.stored_as_mapped.Goals.returns
returns c = stored_mapped _ _
