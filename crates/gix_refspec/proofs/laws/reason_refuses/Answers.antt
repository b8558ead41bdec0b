pub returns : Rattle.gix_refspec.proofs.laws.reason_refuses.Goals.returns
returns c = λ mode source destination e parts first. Rattle.gix_refspec_text.proofs.lemmas.parsing.ReadsLemmas.refused
    c.args.operation mode source destination c.args.text.now e parts first
