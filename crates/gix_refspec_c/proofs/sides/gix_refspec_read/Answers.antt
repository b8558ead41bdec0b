-- The outcome is the number of the result.
use Rattle.gix_refspec_c.specs.Reading.{code_of}
use Rattle.gix_refspec_c.proofs.OutcomeLemmas.{answered}
use Rattle.gix_refspec_c.proofs.sides.gix_refspec_read.Goals as goal

pub returns-in-Some : goal.returns-in-Some
returns-in-Some c = answered code_of c.args.operation _ _ _ c.in-Some.operation c.read_sides.result c.outcome_of.result
    c.in-Some.ensures c.outcome_of.ensures c.read_sides.ensures.ok c.read_sides.ensures.err
