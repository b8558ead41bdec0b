-- The option, then the command.
use Rattle.std.proofs.Common.{[], ap, codes}
use Rattle.refspec_request.specs.Refusals.{about}
use Rattle.refspec_request.proofs.RefusalLemmas.{Writes-append, Writes-same}
use Rattle.refspec_request.proofs.refusal.write_elsewhere.Goals as goal

pub returns : goal.returns
returns c =
    let only = codes ": only " in
    let takes = codes " takes this option" in
    Writes-append (about [] c.args.option.now only) (about [] c.args.command.now takes) _ _ _
    (Writes-same (about [] c.as_bytes.result.now only) (about [] c.args.option.now only) _ _
    (ap (λ z. about [] z only) c.as_bytes.ensures.value) c.in_ok-write_about.ensures)
    (Writes-same (about [] c.as_bytes-2.result.now takes) (about [] c.args.command.now takes) _ _
    (ap (λ z. about [] z takes) c.as_bytes-2.ensures.value) c.in_ok-write_about-2.ensures)
