-- Over the refs of both sources both are fetched still.
use Rattle.gix_refspec_lint.proofs.{Common.{map, reading_of}, lemmas.NestFreeLemmas.nestings_shown}

pub returns : Rattle.gix_refspec_lint.proofs.laws.nestings_shown.Goals.returns
returns c = nestings_shown (map reading_of c.args.specs.now)
