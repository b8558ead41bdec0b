use Rattle.gix_refspec_match.proofs.Common.{arith, common_steps, shr_and_one, pow_pos}

pub returns : Rattle.gix_refspec_match.proofs.bloom.Bloom.has.Goals.returns
returns c = grind (arith, common_steps, shr_and_one, pow_pos c.args.self.now.bits)
