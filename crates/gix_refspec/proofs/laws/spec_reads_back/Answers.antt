pub returns : Rattle.gix_refspec.proofs.laws.spec_reads_back.Goals.returns
returns c = Rattle.gix_refspec_text.proofs.lemmas.specs.SpecLemmas.printed_back _ c.args.spec.now.accepted
