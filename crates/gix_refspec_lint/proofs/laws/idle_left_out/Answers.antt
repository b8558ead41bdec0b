-- What an idle spec would keep isn't valid, or excluded, or kept by an earlier one.
use Rattle.gix_refspec_lint.proofs.{Common.{map, reading_of}, lemmas.LeftOutLemmas.idle_left_out}

pub returns : Rattle.gix_refspec_lint.proofs.laws.idle_left_out.Goals.returns
returns c = idle_left_out (map reading_of c.args.specs.now)
