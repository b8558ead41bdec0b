use Rattle.gix_refspec_match.proofs.Common.{rules, arith}

pub loop-key-preserved : Rattle.gix_refspec_match.proofs.duplicates.shared_among.Goals.loop-key-preserved
loop-key-preserved c = first_of (
  grind (arith, c.loop-key.invariant, c.upper_bits-upper.ensures, c.has.ensures),
  search (rules, c.loop-key.invariant, c.upper_bits-upper.ensures, c.has.ensures),
)
