use Rattle.gix_refspec.proofs.Common.{rules}

-- both parts of the pair are the same

pub returns : Rattle.gix_refspec.proofs.laws.equal_mappings.Goals.returns
returns c = search (rules, c.equal_sources.ensures, c.equal_destinations.ensures)
