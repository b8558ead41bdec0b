-- Borrowed sides have the bytes of the owned ones, so they are accepted too.
use Rattle.gix_refspec_text.proofs.spec.RefSpec.to_ref.Goals as goal

pub invariant_of-result : goal.invariant_of-result
invariant_of-result c =
    record { accepted = rw (c.borrowed_side.ensures, c.borrowed_side-2.ensures) c.args.self.now.accepted }
