use Rattle.gix_refspec_why.proofs.{Common.{bstr_bytes, map, reading_of, ref_of}, lemmas.LawLemmas.{mapped_exactly}}

pub returns : Rattle.gix_refspec_why.proofs.laws.mapped_exactly.Goals.returns
returns c = mapped_exactly (map reading_of c.args.specs.now) (map ref_of c.args.items.now) (bstr_bytes c.args.name)
