-- The location, then the value.
use Rattle.std.proofs.Common.{[], codes}
use Rattle.refspec_request.specs.Refusals.{about, location}
use Rattle.refspec_request.proofs.RefusalLemmas.{Writes-append}
use Rattle.refspec_request.proofs.refusal.write_bad_boolean.Goals as goal

pub returns : goal.returns
returns c = Writes-append (location c.args.origin.now c.args.key.now)
    (about [] c.args.value.now (codes " is not a boolean, so Git stops; write true or false")) _ _ _
    c.in_ok-write_location.ensures c.in_ok-write_about.ensures
