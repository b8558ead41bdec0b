use Rattle.gix_refspec.proofs.Common.{rules, one_lower_text}

pub returns : Rattle.gix_refspec.proofs.laws.one_lower_text.Goals.returns
returns c = one_lower_text c.args.id.kind c.args.id.buffer (search rules) (search rules)
