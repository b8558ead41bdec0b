-- Where nothing is mapped, nothing is shown.
use Rattle.std.proofs.Common.{inr, refl}
use Rattle.gix_refspec.specs.Views.Spec.{reading_of}
use Rattle.gix_refspec_c.specs.Naming.{ShowsForward, nothing}
use Rattle.gix_refspec_c.proofs.NamingLemmas.{written}
use Rattle.gix_refspec_c.proofs.naming.map.Goals as goal

pub returns-in-Ok-None-clause-ok : goal.returns-in-Ok-None-clause-ok
returns-in-Ok-None-clause-ok c =
    let none = rw (c.in-Ok-None.field-0-is, c.new.ensures) at c.in-Ok-None.ensures.ok in
    written c.args.buffer.now c.write_made.new.buffer c.write_made.new.made c.write_made.result
    (ShowsForward c.args.name.now (reading_of c.args.spec.now)) nothing (inr (none, refl)) c.write_made.ensures.ok
