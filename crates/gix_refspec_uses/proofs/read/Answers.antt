-- A text has exactly one reading, or is refused; a refused one has none.
use Rattle.bstr.specs.BStr.{bstr_bytes}
use Rattle.gix_refspec.specs.Views.Spec.{reading_of}
use Rattle.gix_refspec_uses.proofs.ClaimLemmas.{reads_only}
use Rattle.gix_refspec_uses.proofs.read.Goals as goal

pub returns-in-Ok-clause-ok : goal.returns-in-Ok-clause-ok
returns-in-Ok-clause-ok c = reads_only c.args.operation (bstr_bytes c.args.text) (reading_of c.in-Ok.spec)
    (rw c.as_bytes.ensures at c.reads_or_refused.ensures) c.in-Ok.ensures.ok

pub returns-in_ok-unless_memory-in-Err-clause-ok : goal.returns-in_ok-unless_memory-in-Err-clause-ok
returns-in_ok-unless_memory-in-Err-clause-ok c =
    λ refspec. (c.in-Err.ensures.refused c.in_ok-unless_memory-in-Err.ensures.ok).2.unread refspec.0 refspec.1
