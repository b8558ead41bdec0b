-- An idle negative spec maps nothing, and what it excludes isn't mapped.
use Rattle.gix_refspec_lint.proofs.{Common.{bstr_bytes, map, reading_of}, lemmas.LeftOutLemmas.idle_exclusion_left_out}

pub returns : Rattle.gix_refspec_lint.proofs.laws.idle_exclusion_left_out.Goals.returns
returns c = idle_exclusion_left_out (map reading_of c.args.specs.now) (map bstr_bytes c.args.merges.now)
