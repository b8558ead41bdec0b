pub returns : Rattle.gix_refspec.proofs.laws.fetch_group_reads_back.Goals.returns
returns c = Rattle.gix_refspec.proofs.lemmas.keep.AlikeLemmas.reads_back c.args.group.now.specs.items _ _
