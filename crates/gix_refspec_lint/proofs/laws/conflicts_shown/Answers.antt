-- A conflict over any refs is one over two.
use Rattle.gix_refspec_lint.proofs.{Common.{map, reading_of}, lemmas.IndexLemmas.conflicts_shown}

pub returns : Rattle.gix_refspec_lint.proofs.laws.conflicts_shown.Goals.returns
returns c = conflicts_shown (map reading_of c.args.specs.now)
