use Rattle.gix_refspec_match.proofs.Common.{arith, cases_eq, leading_length}

pub returns-clause-fit : Rattle.gix_refspec_match.proofs.hashes.bits_for.Goals.returns-clause-fit
returns-clause-fit c small =
    let (m, sum, below, low) = leading_length 64 c.args.len (omega arith) in
    let cases = cases_eq m 64 in
    grind (arith, small, sum, below, low)
