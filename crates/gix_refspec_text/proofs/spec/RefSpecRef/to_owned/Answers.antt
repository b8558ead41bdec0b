-- Owned sides have the bytes of the borrowed ones, so they are accepted too.
use Rattle.gix_refspec_text.proofs.spec.RefSpecRef.to_owned.Goals as goal

pub invariant_of-result : goal.invariant_of-result
invariant_of-result c =
    record {
      accepted = rw (c.in_ok-owned_side.ensures.keeps, c.in_ok-owned_side-2.ensures.keeps)
          c.args.self.now.accepted;
    }
