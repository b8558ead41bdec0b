-- A conflict of kept mappings is one of two specs, which has an example.
use Rattle.gix_refspec_lint.proofs.lemmas.FreeLemmas.{conflict_free}

pub returns : Rattle.gix_refspec_lint.proofs.laws.conflict_free.Goals.returns
returns c = conflict_free c.args.specs.now
