-- The outcome is the number of the result.
use Rattle.gix_refspec_c.specs.Reading.{code_of}
use Rattle.gix_refspec_c.proofs.OutcomeLemmas.{answered}
use Rattle.gix_refspec_c.proofs.prefixes.gix_refspec_prefix.Goals as goal

pub returns-in-Some : goal.returns-in-Some
returns-in-Some c = answered code_of c.args.operation _ _ _ c.in-Some.operation c.find_prefix.result c.outcome_of.result
    c.in-Some.ensures c.outcome_of.ensures c.find_prefix.ensures.ok c.find_prefix.ensures.err
