pub returns-clause-some : Rattle.gix_refspec.proofs.laws.cover.Goals.returns-clause-some
returns-clause-some c = Rattle.gix_refspec.proofs.lemmas.prefixes.CoverLemmas.cover _ _

pub returns-clause-together : Rattle.gix_refspec.proofs.laws.cover.Goals.returns-clause-together
returns-clause-together c = Rattle.gix_refspec.proofs.lemmas.prefixes.CoverLemmas.cover_together _ _
