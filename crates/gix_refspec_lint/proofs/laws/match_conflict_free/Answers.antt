-- What isn't left out and isn't to `HEAD` is sound, and its destination isn't completed.
use Rattle.gix_refspec_lint.proofs.lemmas.FreeLemmas.{match_conflict_free}

pub returns : Rattle.gix_refspec_lint.proofs.laws.match_conflict_free.Goals.returns
returns c = match_conflict_free c.args.specs.now
