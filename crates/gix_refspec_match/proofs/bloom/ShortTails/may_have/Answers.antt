use Rattle.gix_refspec_match.proofs.{Common.rules, lemmas.index.PartialLemmas.candidate_marked}

pub returns-else-self : Rattle.gix_refspec_match.proofs.bloom.ShortTails.may_have.Goals.returns-else-self
returns-else-self c none x has one =
    search (rules, candidate_marked c.args.self.now c.args.name.now x c.requires c.if-self.false has one)
