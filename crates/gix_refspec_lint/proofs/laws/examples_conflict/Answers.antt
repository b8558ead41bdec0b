-- What a spec fetches is kept.
use Rattle.gix_refspec_lint.proofs.{Common.{map, reading_of}, lemmas.FreeLemmas.examples_conflict}

pub returns : Rattle.gix_refspec_lint.proofs.laws.examples_conflict.Goals.returns
returns c = examples_conflict (map reading_of c.args.specs.now)
