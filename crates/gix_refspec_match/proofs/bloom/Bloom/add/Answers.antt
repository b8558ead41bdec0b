use Rattle.gix_refspec_match.proofs.Common.{common_steps, arith, bit_at_or, bit_at-pow_same, get_or-set_same, pow_below}
use Rattle.gix_refspec_match.proofs.Common.{pow_pos}
use Rattle.gix_refspec_match.proofs.bloom.Bloom.add.Goals as goal

pub returns-clause-here : goal.returns-clause-here
returns-clause-here c = grind (
  arith,
  common_steps,
  pow_pos,
  pow_below,
  get_or-set_same,
  bit_at_or,
  bit_at-pow_same,
  c.requires.all,
  c.lower_bits.ensures,
  c.bit-bit.ensures,
)

pub returns-clause-others : goal.returns-clause-others
returns-clause-others c h was = grind (arith, common_steps, bit_at_or, pow_pos c.args.self.now.bits)
