-- Memory ran out.
use Rattle.std.proofs.Common.{◌≡◌, refl}
use Rattle.gix_refspec_c.specs.declared.failure.Failure.{Failure}
use Rattle.gix_refspec_c.specs.declared.failure.Failure.TheVariants as failure
use Rattle.gix_refspec_c.specs.Remote.{IsNewValue}
use Rattle.gix_refspec_c.proofs.AnswerLemmas.{refused}
use Rattle.gix_refspec_c.proofs.renaming.gix_refspec_renamed.Goals as goal

pub returns-in-Err : goal.returns-in-Err
returns-in-Err c =
    refused (IsNewValue c.args.value.now c.args.old_name.now c.args.new_name.now)
    (λ (f : Failure). f ≡ failure.NoMemory)
    c.args.buffer.now c.args.len.now c.number.result failure.NoMemory c.number.ensures (λ same. cc) refl
