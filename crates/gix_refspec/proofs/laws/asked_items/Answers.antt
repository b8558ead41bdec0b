pub returns-clause-kept : Rattle.gix_refspec.proofs.laws.asked_items.Goals.returns-clause-kept
returns-clause-kept c = Rattle.gix_refspec.proofs.lemmas.prefixes.RequestLemmas.asked_items _ _ _

pub returns-clause-filtered : Rattle.gix_refspec.proofs.laws.asked_items.Goals.returns-clause-filtered
returns-clause-filtered c = Rattle.gix_refspec.proofs.lemmas.keep.FilterLemmas.filtered_by_list c.args.items.now
    c.args.asked.now
