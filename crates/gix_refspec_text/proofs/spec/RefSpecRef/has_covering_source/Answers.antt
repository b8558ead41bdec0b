use Rattle.gix_refspec_text.proofs.{Common.{arith, reading_of}, lemmas.prefixes.PrefixLemmas.told_source}
use Rattle.gix_refspec_text.proofs.spec.RefSpecRef.has_covering_source.Goals as goal

pub returns-in-Some : goal.returns-in-Some
returns-in-Some c = told_source (reading_of c.args.self.now) c.in-Some.side.now c.is_covering.result
    (let test = c.if-ne.ensures in grind arith) c.in-Some.ensures.0 c.is_covering.ensures
