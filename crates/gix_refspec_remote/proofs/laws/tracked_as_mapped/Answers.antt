use Rattle.gix_refspec_remote.proofs.lemmas.LawLemmas.{tracked_mapped}

pub returns : Rattle.gix_refspec_remote.proofs.laws.tracked_as_mapped.Goals.returns
returns c = tracked_mapped _ _
