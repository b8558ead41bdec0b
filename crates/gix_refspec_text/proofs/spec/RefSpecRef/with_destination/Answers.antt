use Rattle.gix_refspec_text.proofs.Common.{IsAccepted, ∥∥₁_map, bstr_bytes, reading_of}
use Rattle.gix_refspec_text.proofs.lemmas.specs.DestinationLemmas.{replaced_read}
use Rattle.gix_refspec_text.proofs.spec.RefSpecRef.with_destination.Goals as goal

pub invariant_of-result : goal.invariant_of-result
invariant_of-result c =
    let read = λ (a : IsAccepted (reading_of c.args.self.now)).
    replaced_read c.args.self.now.op a.0 (reading_of c.args.self.now) (bstr_bytes c.args.destination) c.requires.present
    c.requires.replaced c.requires.name a.1 in
    record { accepted = ∥∥₁_map c.args.self.now.accepted read }
