use Rattle.gix_refspec_match.proofs.Common.{common_steps, arith, Decides-eqb, same_from_decides, FiltersInPlace-more_no}
use Rattle.gix_refspec_match.proofs.Common.{FiltersInPlace-more_set}

pub loop-at-preserved : Rattle.gix_refspec_match.proofs.duplicates.keep_shared.Goals.loop-at-preserved
loop-at-preserved c = grind (
  arith,
  common_steps,
  same_from_decides,
  Decides-eqb,
  FiltersInPlace-more_set,
  FiltersInPlace-more_no,
  c.loop-at.invariant,
  c.index-key.ensures,
  c.upper_bits.ensures,
  c.has.ensures,
)
