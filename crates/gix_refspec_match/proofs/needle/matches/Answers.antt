use Rattle.gix_refspec_match.proofs.{Common.ref_of, lemmas.hits.HitLemmas.pattern_told}

pub returns-in-Pattern : Rattle.gix_refspec_match.proofs.needle.matches.Goals.returns-in-Pattern
returns-in-Pattern c =
    rw c.in-Pattern.is (pattern_told _ _ _ (ref_of c.args.item.now) _ _ c.as_bytes-name.ensures c.is_some.ensures
    c.word_between.ensures)
