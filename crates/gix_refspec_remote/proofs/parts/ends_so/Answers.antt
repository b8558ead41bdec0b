use Rattle.gix_refspec_remote.proofs.lemmas.PartsLemmas.{lacks_tested}
use Rattle.gix_refspec_remote.proofs.parts.ends_so.Goals as goal

pub returns-in-None : goal.returns-in-None
returns-in-None c = rw (c.in-None.is, ← c.as_bytes.ensures) (lacks_tested _ _ c.contains.result c.contains.ensures)

pub returns-in-Some : goal.returns-in-Some
returns-in-Some c = rw (c.in-Some.is, ← c.as_bytes-in-Some.ensures)
    (lacks_tested _ _ c.contains-in-Some.result c.contains-in-Some.ensures)
