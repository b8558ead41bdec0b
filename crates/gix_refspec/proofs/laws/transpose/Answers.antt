pub returns : Rattle.gix_refspec.proofs.laws.transpose.Goals.returns
returns c = Rattle.gix_refspec.proofs.lemmas.hits.TransposeLemmas.transpose c.args.group.now.specs.items _ _
