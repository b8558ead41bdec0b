-- The outcome is the number of the result.
use Rattle.gix_refspec_c.specs.Printing.{kind_code}
use Rattle.gix_refspec_c.proofs.OutcomeLemmas.{answered}
use Rattle.gix_refspec_c.proofs.printing.gix_refspec_print.Goals as goal

pub returns-in-Some : goal.returns-in-Some
returns-in-Some c = answered kind_code c.args.parts.now.kind _ _ _ c.in-Some.kind c.print_parts.result
    c.outcome_of.result c.in-Some.ensures c.outcome_of.ensures c.print_parts.ensures.ok c.print_parts.ensures.err
