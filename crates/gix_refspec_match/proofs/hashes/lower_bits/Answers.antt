use Rattle.gix_refspec_match.proofs.Common.{common_steps, rules, arith, pow-lt, and_mask}

pub returns : Rattle.gix_refspec_match.proofs.hashes.lower_bits.Goals.returns
returns c = first_of (
  grind (arith, common_steps, pow-lt, and_mask, c.requires),
  search (rules, pow-lt, and_mask, c.requires),
)
