pub returns-clause-meaning : Rattle.gix_refspec.proofs.laws.equal_groups.Goals.returns-clause-meaning
returns-clause-meaning c = Rattle.gix_refspec.proofs.lemmas.keep.AlikeLemmas.equal_groups c.args.group.now.specs.items
    c.args.other.now.specs.items _

pub returns-clause-equal : Rattle.gix_refspec.proofs.laws.equal_groups.Goals.returns-clause-equal
returns-clause-equal c = Rattle.gix_refspec.proofs.lemmas.keep.AlikeLemmas.equal_lists c.args.group.now.specs.items
    c.args.other.now.specs.items _
