-- Two kept mappings that are nested are fetched by two specs, which have an example, or by one.
use Rattle.gix_refspec_lint.proofs.{Common.{map, reading_of}, lemmas.NestFreeLemmas.nested_by_one}

pub returns : Rattle.gix_refspec_lint.proofs.laws.nested_by_one.Goals.returns
returns c = nested_by_one (map reading_of c.args.specs.now)
